-- What must be so of the definitions if they are the standard's.
use Rattle.std.specs.Prelude.{◌≡◌, ℕ, ◌*◌, ◌%◌, ◌^◌, ◌<◌, List, [], ◌∷◌, length}
use Rattle.digest.specs.Digest.{padded, digest}

-- a padded message is whole blocks
abbrev pub WholeBlocks : Type 0
WholeBlocks = (m : List ℕ) → length (padded m) % 64 ≡ 0

-- the length field is not reduced below 2 ^ 61 bytes, which is every message that the standard has a digest for
abbrev pub LengthTold : Type 0
LengthTold = (n : ℕ) → n < 2 ^ 61 → n * 8 % 2 ^ 64 ≡ n * 8

abbrev pub ThirtyTwoBytes : Type 0
ThirtyTwoBytes = (m : List ℕ) → length (digest m) ≡ 32

-- the first example of FIPS 180-4, the digest of `abc`, from the definitions alone
abbrev pub OfAbc : Type 0
OfAbc =
    digest (97 ∷ 98 ∷ 99 ∷ []) ≡ 186 ∷ 120 ∷ 22 ∷ 191 ∷ 143 ∷ 1 ∷ 207 ∷ 234 ∷ 65 ∷ 65 ∷ 64 ∷ 222 ∷ 93 ∷ 174 ∷ 34 ∷ 35 ∷ 176 ∷ 3 ∷ 97 ∷ 163 ∷ 150 ∷ 23 ∷ 122 ∷ 156 ∷ 180 ∷ 16 ∷ 255 ∷ 97 ∷ 242 ∷ 0 ∷ 21 ∷ 173 ∷ []

pub record DigestLaws : Type 0 where
  pub whole : WholeBlocks
  pub told : LengthTold
  pub size : ThirtyTwoBytes
  pub abc : OfAbc
