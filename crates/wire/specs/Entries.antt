-- The entries of certificates: each is a signer (1 byte) and a tag, in a coin certificate a member (1), a value (2) and a tag.
use Rattle.std.specs.Prelude.{ℕ, zero, suc, ◌+◌, ◌*◌, Bool, true, ◌&&◌, List, [], ◌∷◌, length, take, drop, Some, None, Option, ◌==◌, nat_le, nat_lt, slice_index}
use Rattle.digest.specs.Bytes.{number16}

pub record Entry : Type 0 where
  pub signer : ℕ
  pub tail : List ℕ

-- the first count entries of the bytes; what follows a signer is `wide` bytes
abbrev pub entries_of : ℕ → ℕ → List ℕ → List Entry
entries_of wide zero bs = []
entries_of wide (suc count) bs =
    record { signer = slice_index bs 0; tail = take wide (drop 1 bs) } ∷ entries_of wide count (drop (1 + wide) bs)

-- a value is at most the limit, where there is one
abbrev pub within : Option ℕ → ℕ → Bool
within None value = true
within (Some limit) value = nat_le value limit

-- an entry of a signer above `last` and up to n, whose value, in a coin certificate, is at most the limit
abbrev pub entry_formed : ℕ → Option ℕ → ℕ → List ℕ → Bool
entry_formed n limit last e = nat_lt last (slice_index e 0) && (nat_le (slice_index e 0) n && within limit (number16 e 1))

-- count entries with rising signers above `last`
abbrev pub entries_formed : ℕ → Option ℕ → ℕ → ℕ → ℕ → List ℕ → Bool
entries_formed n limit wide zero last bs = true
entries_formed n limit wide (suc count) last bs =
    entry_formed n limit last (take (1 + wide) bs) && entries_formed n limit wide count (slice_index bs 0) (drop (1 + wide) bs)

-- the bytes are count entries with rising signers
abbrev pub are_entries : ℕ → Option ℕ → ℕ → ℕ → List ℕ → Bool
are_entries n limit wide count bs = length bs == count * (1 + wide) && entries_formed n limit wide count 0 bs
