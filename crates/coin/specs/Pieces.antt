-- A slice that a pattern takes apart, and facts on each element.
use Rattle.std.specs.Prelude.{◌≡◌, ◌-◌, ◌≤◌, List, [], ◌∷◌, map, length, take, drop, slice_index_or}
use Rattle.std.proofs.Common.{sym, ap, not-suc-le-zero}
use Rattle.std.proofs.lemmas.List.{take_rest}
use Rattle.std.specs.List.{AllByRecursion}

module _ {X : Type 0} (none : X) where
  -- `[first, rest @ ..]`
  pub whole : (xs : List X) → 1 ≤ length xs → xs ≡ slice_index_or xs 0 none ∷ take (length xs - 1) (drop 1 xs)
  whole [] h = absurd (not-suc-le-zero h)
  whole (x ∷ xs) h = ap (λ ys. x ∷ ys) (sym (take_rest (x ∷ xs) 1))

module _ {X : Type 0} (P : X → Type 0) where
  pub all_map : {Y : Type 0} (f : Y → X) (ys : List Y) → AllByRecursion (λ y. P (f y)) ys → AllByRecursion P (map f ys)
  all_map f [] h = tt
  all_map f (y ∷ ys) h = (h.0, all_map f ys h.1)

  pub all_weaker : (Q : X → Type 0) → ((x : X) → P x → Q x) → (xs : List X) → AllByRecursion P xs → AllByRecursion Q xs
  all_weaker Q f [] h = tt
  all_weaker Q f (x ∷ xs) h = (f x h.0, all_weaker Q f xs h.1)

  pub all_both : (Q R : X → Type 0) → ((x : X) → P x → Q x → R x) → (xs : List X) → AllByRecursion P xs → AllByRecursion Q xs → AllByRecursion R xs
  all_both Q R f [] p q = tt
  all_both Q R f (x ∷ xs) p q = (f x p.0 q.0, all_both Q R f xs p.1 q.1)
