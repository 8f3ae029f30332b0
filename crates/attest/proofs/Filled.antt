-- An array of one value after a slice was copied to its start.
use Rattle.std.proofs.Common.{◌≡◌, ℕ, ◌-◌, List, ◌++◌, length, drop, replicate, ap, ◌∙◌, arith}
use Rattle.std.proofs.lemmas.List.{drop-replicate}

pub filled : {X : Type 0} (z : X) (n : ℕ) (xs ys : List X) → ys ≡ xs → ys ++ drop (length xs - 0) (replicate n z) ≡ xs ++ replicate (n - length xs) z
filled z n xs ys e =
    let rest : n - (length xs - 0) ≡ n - length xs = omega arith in
    ap (λ zs. zs ++ drop (length xs - 0) (replicate n z)) e ∙ ap (λ zs. xs ++ zs) (drop-replicate (length xs - 0) n z ∙ ap (λ k. replicate k z) rest)
