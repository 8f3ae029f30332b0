-- The laws of a tally, from those of its items.
use Rattle.std.proofs.Common.{◌≡◌, ℕ, zero, suc, ◌+◌, ◌-◌, ◌≤◌, Bool, true, eqb, ltb, List, [], ◌∷◌, ◌++◌, length, get_or, drop, set, Some, None, Option, sym, ap, ◌∙◌, subst, arith}
use Rattle.std.specs.List.{ContainsAt as Has, AllByRecursion}
use Rattle.std.proofs.lemmas.List.{get_or-drop}
use Rattle.std.proofs.ByRecursion.{has_get_or, has_append_right}
use Rattle.std.proofs.lemmas.Bool.{cond_both, eqb-true}
use Rattle.tally.specs.Likeness.{Likeness}
use Rattle.tally.specs.Walk.{met, if_alike, alike_in, kept_alike, weighed, weight_of}
use Rattle.tally.specs.Puts.{takes}
use Rattle.tally.specs.Laws.{Kept, Rising, Walk, Laws, ReachedByThatMany}
use Rattle.tally.proofs.Walks.{alike_kept}
use Rattle.tally.proofs.Counts.{counted}
use Rattle.tally.proofs.Puts.{never_falls, only_given, refused_keeps, reached_takes}

module _ {T : Type 0} (alike : T → T → Bool) (x : T) where
  rising_lower : (low i : ℕ) (walk : List (ℕ × T)) → low ≤ i → Rising i walk → Rising low walk
  rising_lower low i [] le rising = tt
  rising_lower low i (kept ∷ walk) le rising = (omega (arith, rising.0), rising.1)

  walk_rises : (i : ℕ) (places : List (Option T)) → Rising i (alike_in alike x i places)
  walk_rises i [] = tt
  walk_rises i (None ∷ places) = rising_lower i (i + 1) (alike_in alike x (i + 1) places) (omega arith) (walk_rises (i + 1) places)
  walk_rises i (Some y ∷ places) =
      let rest = alike_in alike x (i + 1) places in
      let rises = walk_rises (i + 1) places in
      cond_both (alike y x) (Some y) None (λ p. Rising i (met i p ++ rest)) (λ _. (omega arith, rises)) (λ _. rising_lower i (i + 1) rest (omega arith) rises)

  -- the list `places` stands in `whole` from place i on
  abbrev Within : List (Option T) → ℕ → List (Option T) → Type 0
  Within whole i places = (k j : ℕ) → i + k ≡ j → get_or places k None ≡ get_or whole j None

  walk_keeps : (whole : List (Option T)) (i : ℕ) (places : List (Option T)) → Within whole i places → AllByRecursion (λ kept. Kept whole kept.0 kept.1 × (alike kept.1 x ≡ true)) (alike_in alike x i places)
  walk_keeps whole i [] at = tt
  walk_keeps whole i (None ∷ places) at = walk_keeps whole (i + 1) places (λ k j e. at (suc k) j (omega arith))
  walk_keeps whole i (Some y ∷ places) at =
      let rest = alike_in alike x (i + 1) places in
      let keeps = walk_keeps whole (i + 1) places (λ k j e. at (suc k) j (omega arith)) in
      let P : ℕ × T → Type 0 = λ kept. Kept whole kept.0 kept.1 × (alike kept.1 x ≡ true) in
      cond_both (alike y x) (Some y) None (λ p. AllByRecursion P (met i p ++ rest)) (λ like. ((sym (at 0 i (omega arith)), like), keeps)) (λ _. keeps)

  walk_meets : (i k j : ℕ) (places : List (Option T)) (y : T) → i + k ≡ j → Kept places k y → alike y x ≡ true → Has (alike_in alike x i places) (j, y)
  walk_meets i k j [] y at held like = cc
  walk_meets i zero j (p ∷ places) y at held like =
      let rest = alike_in alike x (i + 1) places in
      let e : i ≡ j = omega arith in
      subst (λ q. Has (met i q ++ rest) (j, y)) (sym (alike_kept alike x p y held like))
      (subst (λ (m : ℕ). Has ((i, y) ∷ rest) (m, y)) e (has_get_or ((i, y) ∷ rest) 0 (i, y) (omega arith)))
  walk_meets i (suc k) j (p ∷ places) y at held like =
      has_append_right (met i (if_alike alike x p)) (alike_in alike x (i + 1) places) (j, y) (walk_meets (i + 1) k j places y (omega arith) held like)

  pub walks : (places : List (Option T)) (from : ℕ) → Walk alike x places from (kept_alike alike x places from)
  walks places from = record {
    rising = walk_rises from (drop from places);
    kept = walk_keeps places from (drop from places) (λ k j e. get_or-drop from places k None ∙ ap (λ m. get_or places m None) e);
    whole = λ i y le held like.
        walk_meets from (i - from) i (drop from places) y (omega arith) (get_or-drop from places (i - from) None ∙ ap (λ m. get_or places m None) (let e : from + (i - from) ≡ i = omega arith in e) ∙ held) like;
  }

module _ {T : Type 0} {above alike : T → T → Bool} (laws : Likeness above alike) where
  pub reached_by_that_many : ReachedByThatMany above alike
  reached_by_that_many places i x threshold reached =
      let new = set places i (Some x) in
      let taken = reached_takes (ltb i (length places)) (takes above (get_or places i None) x) (eqb (weighed alike x weight_of new) threshold) new places reached in
      let walk = kept_alike alike x new 0 in
      let many : length walk ≡ threshold = sym (counted walk) ∙ eqb-true _ _ taken.1 in
      subst (λ after. Walk alike x after 0 (kept_alike alike x after 0) × (length (kept_alike alike x after 0) ≡ threshold)) (sym taken.0) (walks alike x new 0, many)

  pub tally_laws : Laws above alike
  tally_laws = record {
    never_falls = never_falls laws;
    only_given = only_given above alike;
    refused_keeps_all = λ places i x threshold why e.
        refused_keeps
        (ltb i (length places))
        (takes above (get_or places i None) x)
        (eqb (weighed alike x weight_of (set places i (Some x))) threshold)
        why
        (set places i (Some x))
        places
        e;
    walks_all = λ places from x. walks alike x places from;
    counts_walked = λ places x. counted (kept_alike alike x places 0);
    reached_by_that_many = reached_by_that_many;
  }
