-- The walk over alike items, one place after the other, and the weight of what it meets.
use Rattle.std.proofs.Common.{◌≡◌, ℕ, zero, suc, ◌+◌, ◌<◌, ◌≤◌, Bool, true, false, List, [], ◌∷◌, ◌++◌, length, get_or, set, Some, None, sum_by, Option, ap, ◌∙◌, arith}
use Rattle.std.proofs.lemmas.List.{at_drop_more, at_drop_all}
use Rattle.std.proofs.lemmas.List.Sums.{sum_by-append}
use Rattle.std.proofs.lemmas.Bool.{cond-true, cond-false}
use Rattle.tally.specs.Walk.{met, if_alike, alike_in, kept_alike, weighed}

module _ {T : Type 0} (alike : T → T → Bool) (x : T) where
  -- one place on: the walk meets what the place keeps, if that is alike
  pub kept_more : (places : List (Option T)) (i : ℕ) (d q : Option T) → i < length places → if_alike alike x (get_or places i d) ≡ q → kept_alike alike x places i ≡ met i q ++ kept_alike alike x places (i + 1)
  kept_more places i d q within is =
      at_drop_more (alike_in alike x i) places i d within ∙ ap (λ (o : Option T). met i o ++ kept_alike alike x places (i + 1)) is

  pub alike_kept : (p : Option T) (y : T) → p ≡ Some y → alike y x ≡ true → if_alike alike x p ≡ Some y
  alike_kept p y is like = ap (if_alike alike x) is ∙ cond-true (alike y x) _ _ like

  pub unlike_kept : (p : Option T) (y : T) → p ≡ Some y → alike y x ≡ false → if_alike alike x p ≡ None
  unlike_kept p y is other = ap (if_alike alike x) is ∙ cond-false (alike y x) _ _ other

  pub kept_all : (places : List (Option T)) (i : ℕ) → length places ≤ i → kept_alike alike x places i ≡ []
  kept_all places i past = at_drop_all (alike_in alike x i) places i past

  -- a write to place i weighs what the new item there does, in the place of what the old one did
  module _ (weight : ℕ → ℕ) where
    abbrev pub weight_at : ℕ → Option T → ℕ
    weight_at i p = sum_by (λ kept. weight kept.0) (met i (if_alike alike x p))

    abbrev weight_in : ℕ → List (Option T) → ℕ
    weight_in i places = sum_by (λ kept. weight kept.0) (alike_in alike x i places)

    weight_cons : (n : ℕ) (p : Option T) (places : List (Option T)) → weight_in n (p ∷ places) ≡ weight_at n p + weight_in (n + 1) places
    weight_cons n p places = sum_by-append (λ kept. weight kept.0) (met n (if_alike alike x p)) (alike_in alike x (n + 1) places)

    weight_set : (n i k : ℕ) (places : List (Option T)) (p : Option T) → i < length places → n + i ≡ k → weight_in n (set places i p) + weight_at k (get_or places i p) ≡ weight_in n places + weight_at k p
    weight_set n i k [] p within at = absurd (omega arith)
    weight_set n zero k (q ∷ places) p within at =
        let a = weight_cons n p places in
        let b = weight_cons n q places in
        let e : n ≡ k = omega arith in
        let f = ap (λ m. weight_at m p) e in
        let h = ap (λ m. weight_at m q) e in
        omega arith
    weight_set n (suc i) k (q ∷ places) p within at =
        let a = weight_cons n q (set places i p) in
        let b = weight_cons n q places in
        let c = weight_set (n + 1) i k places p (omega arith) (omega arith) in
        omega arith

    pub weighed_set : (places : List (Option T)) (i : ℕ) (p : Option T) → i < length places → weighed alike x weight (set places i p) + weight_at i (get_or places i p) ≡ weighed alike x weight places + weight_at i p
    weighed_set places i p within = weight_set 0 i i places p within (omega arith)
