-- The laws of the digest.
use Rattle.std.proofs.Common.{◌≡◌, ℕ, zero, suc, ◌+◌, ◌*◌, ◌/◌, ◌%◌, ◌^◌, List, [], ◌∷◌, length, replicate, refl, ap, ◌∙◌, arith}
use Rattle.std.specs.List.{flat_map}
use Rattle.std.proofs.lemmas.List.{length-append, length-replicate}
use Rattle.digest.specs.Bytes.{bytes32, bytes64}
use Rattle.digest.specs.Words.{constants, initial}
use Rattle.digest.specs.Compression.{schedule, rounds, compression}
use Rattle.digest.specs.Digest.{zeros, padding, padded, chained, digest}
use Rattle.digest.specs.Laws.{WholeBlocks, LengthTold, ThirtyTwoBytes, OfAbc, DigestLaws}

length_padding : (n : ℕ) → length (padding n) ≡ 1 + (zeros n + 8)
unfolding padding
length_padding n = length-append (128 ∷ replicate (zeros n) 0) (bytes64 (n * 8 % 2 ^ 64)) ∙ simp length-replicate (omega arith)

whole_blocks : WholeBlocks
whole_blocks m =
    let sum = length-append m (padding (length m)) in
    let long = length_padding (length m) in
    omega arith

length_told : LengthTold
length_told n h = omega arith

length_chained : (m : List ℕ) (n : ℕ) → length (chained initial m n) ≡ 8
unfolding compression
length_chained m zero = refl
length_chained m (suc n) = refl

length_joined : (ws : List ℕ) → length (flat_map bytes32 ws) ≡ 4 * length ws
length_joined [] = refl
length_joined (w ∷ ws) = let e = length_joined ws in omega arith

thirty_two_bytes : ThirtyTwoBytes
unfolding digest
thirty_two_bytes m =
    let n = length (padded m) / 64 in
    length_joined (chained initial (padded m) n) ∙ ap (λ (k : ℕ). 4 * k) (length_chained (padded m) n)

abc : OfAbc
unfolding constants schedule rounds compression padding digest
abc = refl

pub digest_laws : DigestLaws
digest_laws = record { whole = whole_blocks; told = length_told; size = thirty_two_bytes; abc = abc }
