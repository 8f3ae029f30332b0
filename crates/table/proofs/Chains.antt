-- The entries of a well linked way up.
use Rattle.std.proofs.Common.{◌≡◌, ℕ, zero, suc, ◌+◌, ◌<◌, ◌≤◌, Bool, true, false, cond, ◌||◌, eqb, ltb, List, [], ◌∷◌, ◌++◌, length, get_or, is_some, IfSome, Some, None, Option, sym, refl, ap, ◌∙◌, subst, ⊎_elim, arith}
use Rattle.std.proofs.lemmas.List.{append-nil}
use Rattle.std.proofs.lemmas.Bool.{ne_eqb, le-ltb, ltb-false, eqb-false, or_from, or_parts, cond-false, cases_eq, both_ways, cond_both}
use Rattle.table.specs.declared.held.Held.{Held}
use Rattle.table.specs.Places.{at, up}
use Rattle.table.specs.Ancestry.{extends, ancestor, round_at}
use Rattle.table.specs.Committed.{Block, block_of, block_then, one_view, onward, commit, committed_count, entry_place, entries_from, committed_list}
use Rattle.table.specs.Laws.{Ancestor, Linked, Beginning, Entries, Commits}
use Rattle.table.proofs.Walks.{along, extends_above, ancestor_here, ancestor_above}
use Rattle.table.proofs.Orders.{between, extends_self, extends_lower, extends_parent, extends_through}

some_only : (b : Bool) (o : Option ℕ) (i : ℕ) → cond b None o ≡ Some i → b ≡ false
some_only true o i h = absurd (both_ways false refl (ap is_some h))
some_only false o i h = refl

module _ (t : List Held) where
  pub linked_through : (a b : ℕ) → extends t a b ≡ true → Linked t a → Linked t b
  linked_through a b h linked = record {
    genesis = linked.genesis;
    rounds = λ i pos k. linked.rounds i pos (extends_through t a b i h k);
  }

  pub linked_start : round_at t 0 ≡ 0 → Linked t 0
  linked_start e = record { genesis = e; rounds = λ i pos h. absurd (omega (arith, extends_lower t 0 i h)) }

  pub linked_next : (i : ℕ) → 0 < i → round_at t i ≡ round_at t (up t i) + 1 → Linked t (up t i) → Linked t i
  linked_next i pos e linked = record { genesis = linked.genesis; rounds = on }
    where
      on : (j : ℕ) → 0 < j → extends t i j ≡ true → round_at t j ≡ round_at t (up t j) + 1
      on j low h =
          ⊎_elim (λ same. subst (λ k. round_at t k ≡ round_at t (up t k) + 1) same e)
          (λ ne. linked.rounds j low (sym (extends_above t i j ne pos) ∙ h)) (cases_eq i j)

  linked_up : (i : ℕ) → 0 < i → Linked t i → Linked t (up t i)
  linked_up i pos linked = linked_through i (up t i) (extends_parent t i pos) linked

  step : (i : ℕ) → 0 < i → Linked t i → round_at t i ≡ round_at t (up t i) + 1
  step i pos linked = linked.rounds i pos (extends_self t i)

  rounds_rise : (a b : ℕ) → extends t a b ≡ true → Linked t a → round_at t b ≤ round_at t a
  rounds_rise a b h =
      between t b (λ i. Linked t i → round_at t b ≤ round_at t i) (λ _. omega arith)
      (λ i pos _ below linked. omega (arith, below (linked_up i pos linked), step i pos linked)) a h

  -- the ancestor of a round that a lower block has reached is that block's
  ancestor_through : (a b k : ℕ) → extends t a b ≡ true → k ≤ round_at t b → Linked t a → ancestor t a k ≡ ancestor t b k
  ancestor_through a b k h le =
      between t b (λ i. Linked t i → ancestor t i k ≡ ancestor t b k) (λ _. refl)
      (λ i pos e below linked.
      let up_linked = linked_up i pos linked in
      ancestor_above t i k (λ same. omega (arith, rounds_rise (up t i) b e up_linked, step i pos linked)) pos ∙ below up_linked) a h

  pub ancestor_at : (a b : ℕ) → extends t a b ≡ true → Linked t a → ancestor t a (round_at t b) ≡ Some b
  ancestor_at a b h linked = ancestor_through a b (round_at t b) h (omega arith) linked ∙ ancestor_here t b (round_at t b) refl

  -- a block below a has each round up to a's
  below_at : (a k : ℕ) → Linked t a → k ≤ round_at t a → (i : ℕ) × Ancestor t a k i
  below_at a k = along t (λ j. Linked t j → k ≤ round_at t j → (i : ℕ) × Ancestor t j k i) root on a
    where
      root : Linked t 0 → k ≤ round_at t 0 → (i : ℕ) × Ancestor t 0 k i
      root linked le = (0, record { extended = extends_self t 0; of_round = omega (arith, linked.genesis) })

      on : (j : ℕ) → 0 < j → (Linked t (up t j) → k ≤ round_at t (up t j) → (i : ℕ) × Ancestor t (up t j) k i) → Linked t j → k ≤ round_at t j → (i : ℕ) × Ancestor t j k i
      on j pos below linked le =
          ⊎_elim (λ e. (j, record { extended = extends_self t j; of_round = e }))
          (λ ne.
          let b = below (linked_up j pos linked) (omega (arith, step j pos linked)) in
          (b.0, record { extended = extends_through t j (up t j) b.0 (extends_parent t j pos) b.1.extended; of_round = b.1.of_round }))
          (cases_eq (round_at t j) k)

  entry_is : (last k : ℕ) → 0 < k → k ≤ round_at t last → entry_place t last k ≡ ancestor t last k
  entry_is last k pos le =
      cond-false (eqb k 0 || ltb (committed_count t last) k) _ _ (or_from (eqb k 0) (ltb (committed_count t last) k) (ne_eqb k 0 (λ e. omega arith)) (le-ltb (committed_count t last) k le))

  entry_within : (last k i : ℕ) → entry_place t last k ≡ Some i → (0 < k) × (k ≤ round_at t last)
  entry_within last k i h =
      let e = some_only (eqb k 0 || ltb (committed_count t last) k) (ancestor t last k) i h in
      let p = or_parts (eqb k 0) (ltb (committed_count t last) k) e in
      let other = eqb-false k 0 p.0 in
      (omega arith, ltb-false (committed_count t last) k p.1)

  module _ (last : ℕ) (linked : Linked t last) where
    entry_at : (i k : ℕ) → 0 < k → Ancestor t last k i → entry_place t last k ≡ Some i
    entry_at i k pos h =
        let e = h.of_round in
        entry_is last k pos (omega (arith, rounds_rise last i h.extended linked)) ∙ (ap (ancestor t last) (sym e) ∙ ancestor_at last i h.extended linked)

    entry_placed : (k : ℕ) → 0 < k → k ≤ round_at t last → (i : ℕ) × ((entry_place t last k ≡ Some i) × (round_at t i ≡ k))
    entry_placed k pos le =
        let b = below_at last k linked le in
        (b.0, (entry_at b.0 k pos b.1, b.1.of_round))

    -- an entry is an ancestor of its round
    entry_known : (k i : ℕ) → entry_place t last k ≡ Some i → Ancestor t last k i
    entry_known k i h =
        let w = entry_within last k i h in
        let b = below_at last k linked w.1 in
        let e = entry_at b.0 k w.0 b.1 in
        let same : b.0 ≡ i = cc (e, h) in
        subst (Ancestor t last k) same b.1

    above_root : (i : ℕ) → 0 < round_at t i → 0 < i
    above_root zero pos = absurd (omega (arith, linked.genesis))
    above_root (suc i) pos = omega arith

    entry_parents : (k i : ℕ) → 0 < k → entry_place t last (k + 1) ≡ Some i → entry_place t last k ≡ Some (up t i)
    entry_parents k i pos h =
        let e = entry_known (k + 1) i h in
        let low = above_root i (omega arith) in
        let r = linked.rounds i low e.extended in
        entry_at (up t i) k pos (record { extended = extends_through t last i (up t i) e.extended (extends_parent t i low); of_round = omega arith })

    entry_first : (i : ℕ) → entry_place t last 1 ≡ Some i → up t i ≡ 0
    entry_first i h =
        let e = entry_known 1 i h in
        let low = above_root i (omega arith) in
        let r = linked.rounds i low e.extended in
        let on = extends_through t last i (up t i) e.extended (extends_parent t i low) in
        ⊎_elim (λ z. z) (λ ne. absurd (omega (arith, linked.rounds (up t i) (omega arith) on))) (cases_eq (up t i) 0)

    entries_long : (n k : ℕ) → 0 < k → k + n ≤ round_at t last + 1 → length (entries_from n t last k) ≡ n
    entries_long zero k pos le = refl
    entries_long (suc n) k pos le =
        let p = entry_placed k pos (omega arith) in
        ap (λ o. length (block_then t o (entries_from n t last (k + 1)))) p.1.0 ∙ ap suc (entries_long n (k + 1) (omega arith) (omega arith))

    entries_read : (n k j i : ℕ) (d : Block) → 0 < k → k + n ≤ round_at t last + 1 → j < n → entry_place t last (k + j) ≡ Some i → get_or (entries_from n t last k) j d ≡ block_of (at t i)
    entries_read zero k j i d pos le lt h = absurd (omega arith)
    entries_read (suc n) k zero i d pos le lt h =
        let e : k ≡ k + 0 = omega arith in
        ap (λ o. get_or (block_then t o (entries_from n t last (k + 1))) 0 d) (ap (entry_place t last) e ∙ h)
    entries_read (suc n) k (suc j) i d pos le lt h =
        let p = entry_placed k pos (omega arith) in
        let e : k + 1 + j ≡ k + suc j = omega arith in
        ap (λ o. get_or (block_then t o (entries_from n t last (k + 1))) (suc j) d) p.1.0
        ∙ entries_read n (k + 1) j i d (omega arith) (omega arith) (omega arith) (ap (entry_place t last) e ∙ h)

    list_read : (k i : ℕ) (d : Block) → entry_place t last (k + 1) ≡ Some i → get_or (committed_list t last) k d ≡ block_of (at t i)
    list_read k i d h =
        let w = entry_within last (k + 1) i h in
        let e : 1 + k ≡ k + 1 = omega arith in
        entries_read (committed_count t last) 1 k i d (omega arith) (omega arith) (omega arith) (ap (entry_place t last) e ∙ h)

    entries_begin : (b : ℕ) → extends t last b ≡ true → (n m k : ℕ) → 0 < k → n ≤ m → k + n ≤ round_at t b + 1 → Beginning (entries_from n t b k) (entries_from m t last k)
    entries_begin b h zero m k pos le end = record { rest = entries_from m t last k; whole = refl }
    entries_begin b h (suc n) zero k pos le end = absurd (omega arith)
    entries_begin b h (suc n) (suc m) k pos le end =
        let low : k ≤ round_at t b = omega arith in
        let i = below_at b k (linked_through last b h linked) low in
        let known = ancestor_through last b k h low linked ∙ (ap (ancestor t b) (sym i.1.of_round) ∙ ancestor_at b i.0 i.1.extended (linked_through last b h linked)) in
        let here = entry_is last k pos (omega (arith, rounds_rise last b h linked)) ∙ known in
        let there = entry_is b k pos low ∙ (sym (ancestor_through last b k h low linked) ∙ known) in
        let more = entries_begin b h n m (k + 1) (omega arith) (omega arith) (omega arith) in
        record {
          rest = more.rest;
          whole =
              ap (λ o. block_then t o (entries_from m t last (k + 1))) here
              ∙ (ap (λ bs. block_of (at t i.0) ∷ bs) more.whole ∙ sym (ap (λ o. block_then t o (entries_from n t b (k + 1)) ++ more.rest) there));
        }

    pub entries : Entries t last
    entries = record {
      placed = entry_placed;
      parents = entry_parents;
      first = entry_first;
      counted = entries_long (committed_count t last) 1 (omega arith) (omega arith);
      listed = list_read;
      grows = λ b h. entries_begin b h (committed_count t b) (committed_count t last) 1 (omega arith) (rounds_rise last b h linked) (omega arith);
    }

  whole_list : (bs : List Block) → Beginning bs bs
  whole_list bs = record { rest = []; whole = sym (append-nil bs) }

  stays : (last i : ℕ) → (one_view t i ≡ true → extends t last (up t (up t i)) ≡ true) → Commits t last i last
  stays last i h = record { onward = extends_self t last; grandparent = h; grows = λ _. whole_list (committed_list t last) }

  pub commits : (last i : ℕ) → IfSome (commit t last i) (Commits t last i)
  commits last i =
      let g = up t (up t i) in
      cond_both (one_view t i) (onward t last g) (Some last) (λ o. IfSome o (Commits t last i))
      (λ _. cond_both (extends t g last) (Some g) (cond (extends t last g) (Some last) None) (λ o. IfSome o (Commits t last i))
      (λ e. record { onward = e; grandparent = λ _. extends_self t g; grows = λ linked. (entries g linked).grows last e })
      (λ _. cond_both (extends t last g) (Some last) None (λ o. IfSome o (Commits t last i)) (λ e. stays last i (λ _. e)) (λ _. tt)))
      (λ e. stays last i (λ one. absurd (both_ways (one_view t i) e one)))
