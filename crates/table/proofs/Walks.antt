-- The way up, step by step.
use Rattle.std.proofs.Common.{◌≡◌, ℕ, zero, suc, ◌<◌, ◌≤◌, Bool, true, false, cond, eqb, leb, ltb, List, [], ◌∷◌, is_some, Some, None, Option, sym, refl, ap, ◌∙◌, subst, inl, inr, ⊎_elim, arith}
use Rattle.std.specs.List.{find}
use Rattle.std.specs.Option.{option_eq, option_map}
use Rattle.std.proofs.lemmas.Iterator.Adapters.{option_map_id}
use Rattle.std.proofs.lemmas.Bool.{eq-eqb, ne_eqb, ltb-true, le-leb, lt-leb, cond_both, cases_Bool, cases_eq, cases_lt}
use Rattle.table.specs.declared.held.Held.{Held}
use Rattle.table.specs.Places.{at, up}
use Rattle.table.specs.Ancestry.{first_within, first_up, extends, ancestor, round_at, way_within, way_up, way_from}

cond_again : {A : Type 0} (b : Bool) (x y : A) → cond b x (cond b x y) ≡ cond b x y
cond_again true x y = refl
cond_again false x y = refl

some_where : {A : Type 0} (b : Bool) (x : A) → is_some (cond b (Some x) None) ≡ b
some_where true x = refl
some_where false x = refl

module _ (t : List Held) where
  pub up_low : (i n : ℕ) → i ≤ suc n → up t i ≤ n
  up_low i n le = cond_both (ltb (at t i).parent i) _ _ (λ p. p ≤ n) (λ e. omega (arith, ltb-true (at t i).parent i e)) (λ _. omega arith)

  pub up_most : (i : ℕ) → up t i ≤ i
  up_most i = up_low i i (omega arith)

  pub up_lower : (i : ℕ) → 0 < i → up t i < i
  up_lower i pos = cond_both (ltb (at t i).parent i) _ _ (λ p. p < i) (λ e. ltb-true (at t i).parent i e) (λ _. pos)

  pub up_zero : up t 0 ≡ 0
  up_zero = omega (arith, up_low 0 0 (omega arith))

  -- what holds at the root, and of each place of whose parent it holds, holds of every place
  pub along : (P : ℕ → Type 0) → P 0 → ((i : ℕ) → 0 < i → P (up t i) → P i) → (a : ℕ) → P a
  along P root step a = within a a (omega arith)
    where
      within : (n i : ℕ) → i ≤ n → P i
      within n zero le = root
      within zero (suc i) le = absurd (omega arith)
      within (suc n) (suc i) le = step (suc i) (omega arith) (within n (up t (suc i)) (up_low (suc i) n le))

  module _ (test : ℕ → Bool) where
    -- at the root more steps lead nowhere
    stays : (m : ℕ) → first_within m t test 0 ≡ cond (test 0) (Some 0) None
    stays zero = refl
    stays (suc m) =
        ap (λ i. cond (test 0) (Some 0) (first_within m t test i)) up_zero ∙ (ap (λ o. cond (test 0) (Some 0) o) (stays m) ∙ cond_again (test 0) (Some 0) None)

    stays_at : (m i : ℕ) → i ≡ 0 → first_within m t test i ≡ first_within 0 t test i
    stays_at m i e = subst (λ j. first_within m t test j ≡ first_within 0 t test j) (sym e) (stays m)

    -- more steps than the place's number change nothing
    enough : (n m i : ℕ) → i ≤ n → i ≤ m → first_within n t test i ≡ first_within m t test i
    enough zero m i p q = sym (stays_at m i (omega arith))
    enough (suc n) zero i p q = stays_at (suc n) i (omega arith)
    enough (suc n) (suc m) i p q =
        ap (λ o. cond (test i) (Some i) o) (enough n m (up t i) (up_low i n p) (up_low i m q))

    pub first_here : (a : ℕ) → test a ≡ true → first_up t test a ≡ Some a
    first_here zero e = rw e
    first_here (suc a) e = rw e

    pub first_above : (a : ℕ) → test a ≡ false → 0 < a → first_up t test a ≡ first_up t test (up t a)
    first_above zero e pos = absurd (omega arith)
    first_above (suc a) e pos = rw e (enough a (up t (suc a)) (up t (suc a)) (up_low (suc a) a (omega arith)) (omega arith))

    pub first_none : (a : ℕ) → test a ≡ false → a ≡ 0 → first_up t test a ≡ None
    first_none zero e z = rw e
    first_none (suc a) e z = absurd (omega arith)

  -- the way up has the root last, and more steps than the place's number change nothing
  way_enough : (n m i : ℕ) → i ≤ n → i ≤ m → way_within n t i ≡ way_within m t i
  way_enough zero zero i p q = refl
  way_enough zero (suc m) zero p q = refl
  way_enough zero (suc m) (suc i) p q = absurd (omega arith)
  way_enough (suc n) zero zero p q = refl
  way_enough (suc n) zero (suc i) p q = absurd (omega arith)
  way_enough (suc n) (suc m) zero p q = refl
  way_enough (suc n) (suc m) (suc i) p q = ap (λ w. suc i ∷ w) (way_enough n m (up t (suc i)) (up_low (suc i) n p) (up_low (suc i) m q))

  pub way_above : (a : ℕ) → (a ≡ 0 → ⊥) → way_up t a ≡ a ∷ way_up t (up t a)
  way_above zero pos = absurd (pos refl)
  way_above (suc a) pos = ap (λ w. suc a ∷ w) (way_enough a (up t (suc a)) (up t (suc a)) (up_low (suc a) a (omega arith)) (omega arith))

  -- a step of the walk
  pub way_last : {from on : Option ℕ} (i : ℕ) → from ≡ Some i → i ≡ 0 → on ≡ None → way_from t from ≡ i ∷ way_from t on
  way_last {from} {on} i e z n = ap (way_from t) e ∙ (subst (λ j. way_up t j ≡ j ∷ []) (sym z) refl ∙ ap (λ o. i ∷ way_from t o) (sym n))

  pub way_on : {from on : Option ℕ} (i p : ℕ) → from ≡ Some i → (i ≡ 0 → ⊥) → p ≡ up t i → on ≡ Some p → way_from t from ≡ i ∷ way_from t on
  way_on {from} {on} i p e pos u n = ap (way_from t) e ∙ (way_above i pos ∙ ap (λ o. i ∷ way_from t o) (sym (n ∙ ap Some u)))

  pub find_way : (test : ℕ → Bool) (a : ℕ) → find test (way_up t a) ≡ first_up t test a
  find_way test a = along (λ i. find test (way_up t i) ≡ first_up t test i) refl step a
    where
      step : (i : ℕ) → 0 < i → find test (way_up t (up t i)) ≡ first_up t test (up t i) → find test (way_up t i) ≡ first_up t test i
      step i pos below =
          ap (find test) (way_above i (λ e. omega arith))
          ∙ ⊎_elim (λ e. rw e (sym (first_here test i e))) (λ e. rw e (below ∙ sym (first_above test i e pos))) (cases_Bool (test i))

  pub found_way : (test : ℕ → Bool) (a : ℕ) {r : Option ℕ} → option_map (λ x. x) r ≡ find test (way_up t a) → r ≡ first_up t test a
  found_way test a {r} e = sym (option_map_id r) ∙ (e ∙ find_way test a)

  pub extends_same : (a b : ℕ) → a ≡ b → extends t a b ≡ true
  extends_same a b e = ap is_some (first_here (λ i. eqb i b) a (eq-eqb a b e))

  pub extends_above : (a b : ℕ) → (a ≡ b → ⊥) → 0 < a → extends t a b ≡ extends t (up t a) b
  extends_above a b ne pos = ap is_some (first_above (λ i. eqb i b) a (ne_eqb a b ne) pos)

  -- no way up leads to a higher place
  pub extends_low : (a b : ℕ) → a ≤ b → extends t a b ≡ eqb a b
  extends_low a b = along (λ i. i ≤ b → extends t i b ≡ eqb i b) (λ _. some_where (eqb 0 b) 0) step a
    where
      step : (i : ℕ) → 0 < i → (up t i ≤ b → extends t (up t i) b ≡ eqb (up t i) b) → i ≤ b → extends t i b ≡ eqb i b
      step i pos below le =
          let lower = up_lower i pos in
          ⊎_elim (λ e. extends_same i b e ∙ sym (eq-eqb i b e))
          (λ ne. extends_above i b ne pos ∙ (below (omega arith) ∙ (ne_eqb (up t i) b (λ e. omega arith) ∙ sym (ne_eqb i b ne)))) (cases_eq i b)

  -- the first place on the way up that is not above b is b, if b is on the way
  pub extends_found : (a b : ℕ) → option_eq eqb (first_up t (λ i. leb i b) a) (Some b) ≡ extends t a b
  extends_found a b = along (λ i. option_eq eqb (first_up t (λ j. leb j b) i) (Some b) ≡ extends t i b) (low 0 (omega arith)) step a
    where
      low : (i : ℕ) → i ≤ b → option_eq eqb (first_up t (λ j. leb j b) i) (Some b) ≡ extends t i b
      low i le = ap (λ o. option_eq eqb o (Some b)) (first_here (λ j. leb j b) i (le-leb i b le)) ∙ sym (extends_low i b le)

      step : (i : ℕ) → 0 < i → option_eq eqb (first_up t (λ j. leb j b) (up t i)) (Some b) ≡ extends t (up t i) b → option_eq eqb (first_up t (λ j. leb j b) i) (Some b) ≡ extends t i b
      step i pos below = elim (cases_lt b i) [
        | inl above ↦
            ap (λ o. option_eq eqb o (Some b)) (first_above (λ j. leb j b) i (lt-leb i b above) pos)
            ∙ (below ∙ sym (extends_above i b (λ e. omega arith) pos))
        | inr le ↦ low i le
      ]

  pub ancestor_here : (a round : ℕ) → round_at t a ≡ round → ancestor t a round ≡ Some a
  ancestor_here a round e = first_here (λ i. eqb (round_at t i) round) a (eq-eqb (round_at t a) round e)

  pub ancestor_above : (a round : ℕ) → (round_at t a ≡ round → ⊥) → 0 < a → ancestor t a round ≡ ancestor t (up t a) round
  ancestor_above a round ne pos = first_above (λ i. eqb (round_at t i) round) a (ne_eqb (round_at t a) round ne) pos
