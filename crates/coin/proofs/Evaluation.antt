-- A polynomial's value by Horner's rule, and the dealings made of such values.
use Rattle.std.proofs.Common.{◌≡◌, ℕ, ◌+◌, ◌*◌, ◌%◌, List, [], ◌∷◌, reverse, refl, ap, ◌∙◌, arith}
use Rattle.std.specs.List.{fold}
use Rattle.std.proofs.lemmas.Grind.{fold-append, reverse_onto}
use Rattle.std.proofs.lemmas.Nat.{mul-mod_second}
use Rattle.coin.specs.Polynomials.{eval, DealingsAreSound}

abbrev pub step : ℕ → ℕ → ℕ → ℕ
step x higher constant = (constant + x * higher) % 257

pub horner : (x : ℕ) (cs : List ℕ) → fold (step x) 0 (reverse cs) ≡ eval cs x % 257
horner x [] = refl
horner x (c ∷ cs) =
    let last : step x (eval cs x % 257) c ≡ eval (c ∷ cs) x % 257 = omega (arith, mul-mod_second x (eval cs x) 257) in
    ap (fold (step x) 0) (reverse_onto cs c []) ∙ fold-append (step x) 0 (reverse cs) (c ∷ []) ∙ ap (λ v. step x v c) (horner x cs) ∙ last

pub dealings_are_sound_lem : DealingsAreSound
dealings_are_sound_lem n p d some deals view = record {
  coefficients = p view;
  degree = (deals view 1 (omega arith, some)).0.degree;
  through = λ m member. (deals view m member).1;
}
