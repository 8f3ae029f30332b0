-- One put and lists of puts: what they answer and leave.
use Rattle.std.proofs.Common.{◌≡◌, ℕ, ◌<◌, Bool, true, false, cond, ltb, ◌⊎◌, List, [], ◌∷◌, length, get_or, set, Some, None, Ok, Err, Option, Result, sym, refl, ap, ◌∙◌, subst, inl, inr, ⊎_elim, arith}
use Rattle.std.specs.List.{ContainsAt as Has}
use Rattle.std.proofs.lemmas.List.{get_or-set_same, get_or-set_other}
use Rattle.std.proofs.ByRecursion.{has_get_or, has_append_right}
use Rattle.std.proofs.lemmas.Bool.{ltb-true, cond_both, cases_eq}
use Rattle.tally.specs.declared.places.Refused.{Refused}
use Rattle.tally.specs.declared.places.Refused.TheVariants.{NoPlace, Held}
use Rattle.tally.specs.Likeness.{Likeness}
use Rattle.tally.specs.Puts.{takes, put_to}
use Rattle.tally.specs.Laws.{Kept, NeverFalls, OnlyGiven}

-- an answer by its two tests
abbrev answered : Bool → Bool → Bool → Result Bool Refused
answered within up reached = cond within (cond up (Ok reached) (Err Held)) (Err NoPlace)

pub refused_keeps : {X : Type 0} (within up reached : Bool) (why : Refused) (new old : X) → answered within up reached ≡ Err why → cond within (cond up new old) old ≡ old
refused_keeps true true reached why new old e = cc
refused_keeps true false reached why new old e = refl
refused_keeps false up reached why new old e = refl

pub reached_takes : {X : Type 0} (within up reached : Bool) (new old : X) → answered within up reached ≡ Ok true → (cond within (cond up new old) old ≡ new) × (reached ≡ true)
reached_takes true true reached new old e = (refl, cc)
reached_takes true false reached new old e = cc
reached_takes false up reached new old e = cc

module _ {T : Type 0} {above alike : T → T → Bool} (laws : Likeness above alike) where
  -- what becomes of the item y of a place
  abbrev Risen : List (Option T) → ℕ → T → Type 0
  Risen after i y = (z : T) × Kept after i z × ((z ≡ y) ⊎ (above z y ≡ true))

  put_rises : (places : List (Option T)) (i : ℕ) (x : T) (j : ℕ) (y : T) → Kept places j y → Risen (put_to above places i x) j y
  put_rises places i x j y held =
      let stays : Risen places j y = (y, held, inl refl) in
      let risen : (after : List (Option T)) → Type 0 = λ after. Risen after j y in
      cond_both
      (ltb i (length places))
      _
      places
      risen
      (λ inside.
      cond_both
      (takes above (get_or places i None) x)
      (set places i (Some x))
      places
      risen
      (λ up.
      ⊎_elim
      (λ here.
      let within : j < length places = omega (arith, ltb-true i (length places) inside) in
      let here-held : get_or places i None ≡ Some y = ap (λ k. get_or places k None) (sym here) ∙ held in
      (x, ap (λ k. get_or (set places k (Some x)) j None) (sym here) ∙ get_or-set_same places j (Some x) None within, inr (ap (λ p. takes above p x) (sym here-held) ∙ up)))
      (λ there. (y, get_or-set_other places i j (Some x) None there ∙ held, inl refl))
      (cases_eq j i))
      (λ _. stays))
      (λ _. stays)

  rises_on : (x y z : T) → (y ≡ x) ⊎ (above y x ≡ true) → (z ≡ y) ⊎ (above z y ≡ true) → (z ≡ x) ⊎ (above z x ≡ true)
  rises_on x y z (inl e) (inl f) = inl (f ∙ e)
  rises_on x y z (inl e) (inr g) = inr (ap (above z) (sym e) ∙ g)
  rises_on x y z (inr g) (inl f) = inr (ap (λ t. above t x) f ∙ g)
  rises_on x y z (inr g) (inr h) = inr (laws.transitive z y x h g)

  pub never_falls : NeverFalls above alike
  never_falls places [] i x held = (x, held, inl refl)
  never_falls places (put ∷ puts) i x held =
      let first = put_rises places put.0 put.1 i x held in
      let later = never_falls (put_to above places put.0 put.1) puts i first.0 first.1 in
      (later.0, later.1, rises_on x first.0 later.0 first.2 later.2)

module _ {T : Type 0} (above alike : T → T → Bool) where
  -- what a place holds after a put it held before, or it is what was put there
  pub put_gives : (places : List (Option T)) (i : ℕ) (x : T) (j : ℕ) (y : T) → Kept (put_to above places i x) j y → Kept places j y ⊎ (◌≡◌ {A = ℕ × T} (i, x) (j, y))
  put_gives places i x j y =
      let given : (after : List (Option T)) → Type 0 = λ after. Kept after j y → Kept places j y ⊎ (◌≡◌ {A = ℕ × T} (i, x) (j, y)) in
      cond_both
      (ltb i (length places))
      _
      places
      given
      (λ inside.
      cond_both
      (takes above (get_or places i None) x)
      (set places i (Some x))
      places
      given
      (λ _ held.
      ⊎_elim
      (λ here.
      let within : j < length places = omega (arith, ltb-true i (length places) inside) in
      let same = get_or-set_same places j (Some x) None within in
      let at : get_or (set places j (Some x)) j None ≡ Some y = ap (λ k. get_or (set places k (Some x)) j None) here ∙ held in
      let e : x ≡ y = cc in
      inr (cc))
      (λ there. inl (sym (get_or-set_other places i j (Some x) None there) ∙ held))
      (cases_eq j i))
      (λ _ held. inl held))
      (λ _ held. inl held)

  pub only_given : OnlyGiven above alike
  only_given places [] i x held = inl held
  only_given places (put ∷ puts) i x held =
      let all = put ∷ puts in
      ⊎_elim
      (λ before.
      ⊎_elim
      inl
      (λ here. inr (subst (Has all) here (has_get_or all 0 put (omega arith))))
      (put_gives places put.0 put.1 i x before))
      (λ given. inr (has_append_right (put ∷ []) puts (i, x) given))
      (only_given (put_to above places put.0 put.1) puts i x held)
