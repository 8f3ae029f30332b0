-- The padding that is absorbed is that of the bytes absorbed.
use Rattle.std.proofs.Common.{◌≡◌, ℕ, ◌+◌, ◌*◌, ◌%◌, ◌^◌, ◌<◌, List, ◌∷◌, ◌++◌, length, take, replicate, ap, ◌∙◌, subst, add-one, arith}
use Rattle.std.proofs.lemmas.List.{append_assoc, take-replicate}
use Rattle.digest.specs.declared.hasher.Sha256.{Sha256}
use Rattle.digest.specs.Bytes.{bytes64}
use Rattle.digest.specs.Digest.{zeros, padding, padded}
use Rattle.digest.specs.Streaming.{Absorbed, Absorbs}

padding_same : (n m : ℕ) → m ≡ n % 2 ^ 64 → padding m ≡ padding n
unfolding padding
padding_same n m e =
    let z : zeros m ≡ zeros n = omega arith in
    let b : m * 8 % 2 ^ 64 ≡ n * 8 % 2 ^ 64 = omega arith in
    ap (λ (i : ℕ). 128 ∷ replicate i 0 ++ bytes64 (m * 8 % 2 ^ 64)) z ∙ ap (λ (i : ℕ). 128 ∷ replicate (zeros n) 0 ++ bytes64 i) b

pub one_and_zeros : (z n : ℕ) → z < 64 → n ≡ z + 1 → take {A = ℕ} n (128 ∷ replicate 63 0) ≡ 128 ∷ replicate z 0
one_and_zeros z n h e =
    ap (λ (i : ℕ). take {A = ℕ} i (128 ∷ replicate 63 0)) (e ∙ add-one z) ∙ ap (λ (x : List ℕ). 128 ∷ x) (take-replicate z 63 0 (omega arith))

-- a hasher that absorbs the one and the zeros and then the length has absorbed the padding
pub absorbed_padded : (h i k : Sha256) (mark field : List ℕ) → mark ≡ 128 ∷ replicate (zeros h.length) 0 → field ≡ bytes64 (h.length * 8 % 2 ^ 64)
    → Absorbs h mark i → Absorbs i field k → (bytes : List ℕ) → Absorbed h bytes → Absorbed k (padded bytes)
unfolding padding
absorbed_padded h i k mark field markE fieldE one two bytes had =
    let is : (bytes ++ mark) ++ field ≡ padded bytes =
    append_assoc bytes mark field
    ∙ ap (λ (x : List ℕ). bytes ++ (x ++ field)) markE ∙ ap (λ (x : List ℕ). bytes ++ ((128 ∷ replicate (zeros h.length) 0) ++ x)) fieldE
    ∙ ap (λ (x : List ℕ). bytes ++ x) (padding_same (length bytes) h.length had.count) in
    subst (Absorbed k) is (two.next (bytes ++ mark) (one.next bytes had))
