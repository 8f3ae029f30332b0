-- The lookup, place by place.
use Rattle.std.proofs.Common.{◌≡◌, ℕ, zero, suc, ◌+◌, ◌-◌, ◌<◌, ◌≤◌, min, true, false, cond, List, length, take, drop, is_some, IfSome, Some, refl, ap, ◌∙◌, subst, inl, inr, ⊎_elim, arith}
use Rattle.std.specs.List.{position, position_from}
use Rattle.std.specs.Str.{bytes_eq}
use Rattle.std.proofs.lemmas.Slice.Eq.{bytes_eq-Decides}
use Rattle.std.proofs.lemmas.List.{drop_more, drop_all}
use Rattle.std.proofs.lemmas.Bool.{cond_both, cases_eq, cases_lt, both_ways}
use Rattle.std.proofs.lemmas.Iterator.Adapters.{position_from-zero}
use Rattle.table.specs.declared.held.Held.{Held}
use Rattle.table.specs.Places.{at, genesis, lookup, lookup_from}
use Rattle.table.specs.Laws.{Found, Finds}
use Rattle.table.proofs.Orders.{found_map}

-- the place of the first of n blocks from place i on that has the id
looked_from : (t : List Held) (id : List ℕ) (n i : ℕ) → position_from (λ (b : Held). bytes_eq b.id id) i (take n (drop i t)) ≡ lookup_from (min n (length t - i)) t i id
looked_from t id zero i =
    let none : 0 ≡ min 0 (length t - i) = omega arith in
    ap (λ m. lookup_from m t i id) none
looked_from t id (suc n) i = elim (cases_lt i (length t)) [
  | inl lt ↦
      let more : min (suc n) (length t - i) ≡ suc (min n (length t - (i + 1))) = omega arith in
      rw (drop_more t i genesis lt, more) (ap (λ o. cond (bytes_eq (at t i).id id) (Some i) o) (looked_from t id n (i + 1)))
  | inr past ↦
      let none : min (suc n) (length t - i) ≡ 0 = omega arith in
      rw (drop_all i t past, none) refl
]

pub position_lookup : (t : List Held) (held : ℕ) (id : List ℕ) → position (λ (b : Held). bytes_eq b.id id) (take held t) ≡ lookup t held id
position_lookup t held id =
    let whole : length t - 0 ≡ length t = omega arith in
    position_from-zero (λ (b : Held). bytes_eq b.id id) (take held t) ∙ (looked_from t id held 0 ∙ ap (λ m. lookup_from (min held m) t 0 id) whole)

-- the same for the held places as they are lent to the search
pub held_lookup : (t : List Held) (held m : ℕ) (id : List ℕ) → m ≡ min held (length t) → position (λ (b : Held). bytes_eq b.id id) (take m t) ≡ lookup t held id
held_lookup t held m id e =
    let many : min m (length t) ≡ min held (length t) = omega arith in
    position_lookup t m id ∙ ap (λ n. lookup_from n t 0 id) many

-- of n places from i on, j is the first whose block has the id
record FirstFrom (t : List Held) (id : List ℕ) (n i j : ℕ) : Type 0 where
  low : i ≤ j
  high : j < i + n
  named : (at t j).id ≡ id
  first : (k : ℕ) → i ≤ k → k < j → (at t k).id ≡ id → ⊥

module _ (t : List Held) (id : List ℕ) where
  same_id : (i : ℕ) → bytes_eq (at t i).id id ≡ true → (at t i).id ≡ id
  same_id i e = (bytes_eq-Decides (at t i).id id).0 e

  other_id : (i k : ℕ) → bytes_eq (at t i).id id ≡ false → k ≡ i → (at t k).id ≡ id → ⊥
  other_id i k e same named =
      both_ways (bytes_eq (at t i).id id) e ((bytes_eq-Decides (at t i).id id).1 (subst (λ j. (at t j).id ≡ id) same named))

  from_right : (n i : ℕ) → IfSome (lookup_from n t i id) (FirstFrom t id n i)
  from_right zero i = tt
  from_right (suc n) i =
      cond_both (bytes_eq (at t i).id id) (Some i) (lookup_from n t (i + 1) id) (λ o. IfSome o (FirstFrom t id (suc n) i))
      (λ e. record { low = omega arith; high = omega arith; named = same_id i e; first = λ k le lt _. omega arith })
      (λ e. found_map (FirstFrom t id n (i + 1)) (FirstFrom t id (suc n) i) (lookup_from n t (i + 1) id) (on e) (from_right n (i + 1)))
    where
      on : bytes_eq (at t i).id id ≡ false → (j : ℕ) → FirstFrom t id n (i + 1) j → FirstFrom t id (suc n) i j
      on e j h = record {
        low = omega arith;
        high = omega arith;
        named = h.named;
        first = λ k le lt named. ⊎_elim (λ same. other_id i k e same named) (λ ne. h.first k (omega arith) lt named) (cases_eq k i);
      }

  from_sought : (n i j : ℕ) → i ≤ j → j < i + n → (at t j).id ≡ id → is_some (lookup_from n t i id) ≡ true
  from_sought zero i j le lt named = absurd (omega arith)
  from_sought (suc n) i j le lt named =
      let on = from_sought n (i + 1) j in
      cond_both (bytes_eq (at t i).id id) (Some i) (lookup_from n t (i + 1) id) (λ o. is_some o ≡ true) (λ _. refl)
      (λ e. ⊎_elim (λ same. absurd (other_id i j e same named)) (λ ne. on (omega arith) (omega arith) named) (cases_eq j i))

  right : (held : ℕ) → IfSome (lookup t held id) (Found t held id)
  right held =
      found_map (FirstFrom t id (min held (length t)) 0) (Found t held id) (lookup t held id)
      (λ i h. record { within = omega arith; there = omega arith; named = h.named; first = λ k lt named. h.first k (omega arith) lt named })
      (from_right (min held (length t)) 0)

  pub finds : (held : ℕ) → Finds t held id (lookup t held id)
  finds held = record {
    right = right held;
    sought = λ i within there named. from_sought (min held (length t)) 0 i (omega arith) (omega arith) named;
  }
