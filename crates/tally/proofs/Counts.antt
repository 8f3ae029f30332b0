-- How many places a walk meets, and how a put changes that: the place that takes an item held none alike to it.
use Rattle.std.proofs.Common.{◌≡◌, ℕ, ◌+◌, ◌<◌, ◌≤◌, Bool, true, false, List, [], ◌∷◌, length, get_or, set, Some, None, sum_by, Option, sym, refl, ap, ◌∙◌, ⊎_elim, arith}
use Rattle.std.specs.List.{All}
use Rattle.std.proofs.lemmas.List.{length-append, get_or_default}
use Rattle.std.proofs.lemmas.List.Elements.{All-nil, All-cons, All-append}
use Rattle.std.proofs.lemmas.List.Sums.{sum_by-cons}
use Rattle.std.proofs.lemmas.Bool.{cases_Bool, both_ways}
use Rattle.tally.specs.Likeness.{Likeness}
use Rattle.tally.specs.Walk.{met, if_alike, alike_in, kept_alike, weighed, weight_of}
use Rattle.tally.specs.Puts.{takes}
use Rattle.tally.proofs.Walks.{alike_kept, unlike_kept, weight_at, weighed_set}

-- weights of 1 are a count
pub counted : {T : Type 0} (walk : List (ℕ × T)) → sum_by (λ kept. weight_of kept.0) walk ≡ length walk
counted [] = refl
counted (kept ∷ walk) = let more = counted walk in omega (arith, sum_by-cons (λ k. weight_of k.0) kept walk)

one_at_most : {T : Type 0} (i : ℕ) (p : Option T) → length (met i p) ≤ 1
one_at_most i None = omega arith
one_at_most i (Some y) = omega arith

one_within : {T : Type 0} (n i : ℕ) (p : Option T) → i < n → All (λ (kept : ℕ × T). kept.0 < n) (met i p)
one_within n i None lt = All-nil _
one_within {T} n i (Some y) lt = let P : ℕ × T → Type 0 = λ kept. kept.0 < n in All-cons P (i, y) [] lt (All-nil P)

module _ {T : Type 0} (alike : T → T → Bool) (x : T) where
  pub met_at_most : (i : ℕ) (places : List (Option T)) → length (alike_in alike x i places) ≤ length places
  met_at_most i [] = omega arith
  met_at_most i (p ∷ places) =
      let one = one_at_most i (if_alike alike x p) in
      let rest = met_at_most (i + 1) places in
      omega (arith, length-append (met i (if_alike alike x p)) (alike_in alike x (i + 1) places))

  pub met_within : (n i : ℕ) (places : List (Option T)) → i + length places ≤ n → All (λ met. met.0 < n) (alike_in alike x i places)
  met_within n i [] le = All-nil (λ met. met.0 < n)
  met_within n i (p ∷ places) le =
      All-append (λ met. met.0 < n) (met i (if_alike alike x p)) _ (one_within n i (if_alike alike x p) (omega arith)) (met_within n (i + 1) places (omega arith))

  pub counted_at_most : (places : List (Option T)) → weighed alike x weight_of places ≤ length places
  counted_at_most places = let n = counted (kept_alike alike x places 0) in let most = met_at_most 0 places in omega arith

module _ {T : Type 0} {above alike : T → T → Bool} (laws : Likeness above alike) (weight : ℕ → ℕ) where
  taken_unlike : (x y : T) → above x y ≡ true → alike y x ≡ false
  taken_unlike x y up =
      ⊎_elim
      (λ same. absurd (both_ways (above x y) (sym (laws.level_above y x y same) ∙ laws.irreflexive y) up))
      (λ other. other)
      (cases_Bool (alike y x))

  weightless : (i : ℕ) (p : Option T) (x : T) → takes above p x ≡ true → weight_at alike x weight i p ≡ 0
  weightless i None x up = refl
  weightless i (Some y) x up = ap (λ p. sum_by (λ kept. weight kept.0) (met i p)) (unlike_kept alike x (Some y) y refl (taken_unlike x y up))

  pub weighed_put : (places : List (Option T)) (i : ℕ) (x : T) → i < length places → takes above (get_or places i None) x ≡ true → weighed alike x weight (set places i (Some x)) ≡ weighed alike x weight places + weight i
  weighed_put places i x within up =
      let change = weighed_set alike x weight places i (Some x) within in
      let own : weight_at alike x weight i (Some x) ≡ 0 + weight i = ap (λ p. sum_by (λ kept. weight kept.0) (met i p)) (alike_kept alike x (Some x) x refl (laws.itself x)) in
      let old = weightless i (get_or places i None) x up in
      let same = ap (weight_at alike x weight i) (get_or_default places i (Some x) None within) in
      omega arith
