-- Well linked tables: what follows from them, and how a held block keeps them so.
use Rattle.std.proofs.Common.{◌≡◌, ℕ, zero, suc, ◌+◌, ◌<◌, true, cond, ◌||◌, eqb, ltb, List, length, set, IfSome, Some, None, Option, sym, ap, ◌∙◌, subst, inl, inr, arith, length-append, length-set, get_or-set_same}
use Rattle.std.proofs.lemmas.Bool.{cases_lt, cond_both, cond-true, lt-ltb}
use Rattle.blocks.specs.declared.statement.Statement.{Statement}
use Rattle.table.specs.declared.held.Held.{Held}
use Rattle.table.specs.Ancestry.{extends, ancestor, round_at}
use Rattle.table.specs.Committed.{one_view, onward, commit, committed_count, committed_list, entry_place}
use Rattle.table.specs.Laws.{Found, Linked, Commits, Ancestor, Entries, Beginning}
use Rattle.table.specs.Places.{at, up, genesis, lookup}
use Rattle.table.proofs.Agreements.{kept_set}
use Rattle.table.proofs.Chains.{commits, entries}
use Rattle.table.proofs.Lookups.{finds}
use Rattle.table.proofs.Orders.{ancestors, extends_lower, extends_self, extends_through}
use Rattle.table.proofs.Walks.{up_most}
use Rattle.member.specs.declared.state.Member.{Member}
use Rattle.member.specs.Exit.{place_of}
use Rattle.member.specs.See.{or_last, newly}
use Rattle.laws.specs.Growing.{Follows, LinkedMember, Chained}
use Rattle.laws.specs.Official.{ChainLeft, as_before, seen}

-- a block that takes the next place
pub record Placed (m : Member) (table : List Held) (b : Held) : Type 0 where
  pub free : m.held < length table
  pub below : b.parent < m.held
  pub rounds : b.head.round.0 ≡ round_at table b.parent + 1
  pub named : b.head.parent ≡ (at table b.parent).id

-- the table is as it was, or a block was held
pub data TableLeft (m : Member) (table : List Held) (m' : Member) (table' : List Held) : Type 0 where
  unheld : table' ≡ table → m'.held ≡ m.held → TableLeft m table m' table'
  holds : (b : Held) → Placed m table b → table' ≡ set table m.held b → m'.held ≡ m.held + 1 → TableLeft m table m' table'

module _ (m : Member) (t : List Held) (links : LinkedMember m t) where
  pub linked : (a : ℕ) → a < m.held → Linked t a
  linked a low = record { genesis = ap (λ b. b.head.round.0) links.root; rounds = λ i pos e. (links.follows i pos (let le = extends_lower t a i e in omega arith)).rounds }

  entry_known : (k i : ℕ) → entry_place t m.chain.last k ≡ Some i → Ancestor t m.chain.last k i
  entry_known k i =
      cond_both (eqb k 0 || ltb (committed_count t m.chain.last) k) None (ancestor t m.chain.last k) (λ o. o ≡ Some i → Ancestor t m.chain.last k i)
      (λ e q. cc)
      (λ e q. subst (λ o. IfSome o (Ancestor t m.chain.last k)) q (ancestors t m.chain.last k).right)

  -- an entry names its parent
  entry_names : (k i : ℕ) → entry_place t m.chain.last (k + 1) ≡ Some i → (at t i).head.parent ≡ (at t (up t i)).id
  entry_names k i e =
      let right = entry_known (k + 1) i e in
      let le = extends_lower t m.chain.last i right.extended in
      let last = links.committed in
      elim (cases_lt 0 i) [
        | inl pos ↦ (links.follows i pos (omega arith)).named
        | inr none ↦
            let zeroth : i ≡ 0 = omega arith in
            let at_root : round_at t i ≡ 0 = ap (round_at t) zeroth ∙ ap (λ b. b.head.round.0) links.root in
            absurd (omega (arith, right.of_round))
      ]

  pub known : Entries t m.chain.last
  known = entries t m.chain.last (linked m.chain.last links.committed)

  pub chained : Chained t m.chain.last
  chained = record { next = next; first = first }
    where
      next : (k i j : ℕ) → entry_place t m.chain.last k ≡ Some i → entry_place t m.chain.last (k + 1) ≡ Some j → (at t j).head.parent ≡ (at t i).id
      next zero i j p q = cc
      next (suc k) i j p q =
          let e = known.parents (suc k) j (omega arith) q in
          let same : up t j ≡ i = cc in
          entry_names (suc k) j q ∙ ap (λ x. (at t x).id) same

      first : (i : ℕ) → entry_place t m.chain.last 1 ≡ Some i → (at t i).head.parent ≡ genesis.id
      first i e = entry_names 0 i e ∙ (ap (λ x. (at t x).id) (known.first i e) ∙ ap (λ b. b.id) links.root)

-- a block that stands as it did, on a parent that does
follows_still : (t u : List Held) (i : ℕ) → at u i ≡ at t i → at u (up t i) ≡ at t (up t i) → Follows t i → Follows u i
follows_still t u i here parent f =
    let ups : up u i ≡ up t i = ap (λ b. cond (ltb b.parent i) b.parent 0) here in
    let above : at u (up u i) ≡ at t (up t i) = ap (at u) ups ∙ parent in
    record {
      rounds = ap (λ b. b.head.round.0) here ∙ (f.rounds ∙ sym (ap (λ b. b.head.round.0 + 1) above));
      named = ap (λ b. b.head.parent) here ∙ (f.named ∙ sym (ap (λ b. b.id) above));
    }

-- the block that takes the next place follows its parent
follows_new : (m : Member) (t : List Held) (b : Held) → Placed m t b → Follows (set t m.held b) m.held
follows_new m t b p =
    let here : at (set t m.held b) m.held ≡ b = get_or-set_same t m.held b genesis p.free in
    let ups : up (set t m.held b) m.held ≡ b.parent =
    ap (λ x. cond (ltb x.parent m.held) x.parent 0) here ∙ cond-true (ltb b.parent m.held) b.parent 0 (lt-ltb _ _ p.below) in
    let above : at (set t m.held b) (up (set t m.held b) m.held) ≡ at t b.parent =
    ap (at (set t m.held b)) ups ∙ (kept_set t m.held b).blocks b.parent p.below in
    record {
      rounds = ap (λ x. x.head.round.0) here ∙ (p.rounds ∙ sym (ap (λ x. x.head.round.0 + 1) above));
      named = ap (λ x. x.head.parent) here ∙ (p.named ∙ sym (ap (λ x. x.id) above));
    }

module _ (m : Member) (t : List Held) (links : LinkedMember m t) (m' : Member) (low : m'.chain.last < m.held) where
  pub still_linked : (t' : List Held) → TableLeft m t m' t' → LinkedMember m' t'
  still_linked t' (unheld e h) = subst (LinkedMember m') (sym e) (record {
    root = links.root;
    follows = λ i pos lt. links.follows i pos (omega arith);
    committed = omega arith;
    room = let r = links.room in omega arith;
  })
  still_linked t' (holds b p e h) =
      let kept = kept_set t m.held b in
      let last = links.committed in
      subst (LinkedMember m') (sym e) (record {
        root = kept.blocks 0 (omega arith) ∙ links.root;
        follows = λ i pos lt. elim (cases_lt i m.held) [
          | inl before ↦
              follows_still t (set t m.held b) i (kept.blocks i before) (kept.blocks (up t i) (let below = up_most t i in omega arith)) (links.follows i pos before)
          | inr after ↦
              let next : m.held ≡ i = omega arith in
              subst (Follows (set t m.held b)) next (follows_new m t b p)
        ];
        committed = omega arith;
        room = let long = length-set t m.held b in let free = p.free in omega arith;
      })

  -- what stays when a block is held
  same_list : (t' : List Held) → TableLeft m t m' t' → committed_list t' m'.chain.last ≡ committed_list t m'.chain.last
  same_list t' (unheld e h) = ap (λ u. committed_list u m'.chain.last) e
  same_list t' (holds b p e h) = ap (λ u. committed_list u m'.chain.last) e ∙ (kept_set t m.held b).lists m'.chain.last low

  same_extends : (x : ℕ) (t' : List Held) → TableLeft m t m' t' → extends t' m'.chain.last x ≡ extends t m'.chain.last x
  same_extends x t' (unheld e h) = ap (λ u. extends u m'.chain.last x) e
  same_extends x t' (holds b p e h) = ap (λ u. extends u m'.chain.last x) e ∙ (kept_set t m.held b).extensions m'.chain.last x low

  -- what the last committed block extended is extended by the new one
  pub extends_on : (t' : List Held) → TableLeft m t m' t' → extends t m'.chain.last m.chain.last ≡ true → (x : ℕ) → extends t m.chain.last x ≡ true →
      extends t' m'.chain.last x ≡ true
  extends_on t' left e x h = same_extends x t' left ∙ extends_through t m'.chain.last m.chain.last x e h

  list_grows : extends t m'.chain.last m.chain.last ≡ true → Beginning (committed_list t m.chain.last) (committed_list t m'.chain.last)
  list_grows e = (entries t m'.chain.last (linked m t links m'.chain.last low)).grows m.chain.last e

  pub grown : (t' : List Held) → TableLeft m t m' t' → extends t m'.chain.last m.chain.last ≡ true →
      Beginning (committed_list t m.chain.last) (committed_list t' m'.chain.last)
  grown t' left e = subst (Beginning (committed_list t m.chain.last)) (sym (same_list t' left)) (list_grows e)

  -- how many blocks were added
  pub added : (t' : List Held) → TableLeft m t m' t' → extends t m'.chain.last m.chain.last ≡ true →
      length (committed_list t' m'.chain.last) ≡ length (committed_list t m.chain.last) + newly t m.chain m'.chain
  added t' left e =
      let before = (known m t links).counted in
      let after = (entries t m'.chain.last (linked m t links m'.chain.last low)).counted in
      let same = ap length (same_list t' left) in
      let more = list_grows e in
      let long = ap length more.whole ∙ length-append (committed_list t m.chain.last) more.rest in
      omega arith

-- the last committed block once a certificate of a held block is seen
committed_on : (t : List Held) (last i : ℕ) (o : Option ℕ) → IfSome o (Commits t last i) → extends t (or_last o last) last ≡ true
committed_on t last i None c = extends_self t last
committed_on t last i (Some next) c = c.onward

committed_low : (t : List Held) (last i n : ℕ) → last < n → i < n → or_last (commit t last i) last < n
committed_low t last i n low here =
    let g : up t (up t i) < n = (let one = up_most t i in let two = up_most t (up t i) in omega arith) in
    cond_both (one_view t i) (onward t last (up t (up t i))) (Some last) (λ o. or_last o last < n)
    (λ e. cond_both (extends t (up t (up t i)) last) (Some (up t (up t i))) (cond (extends t last (up t (up t i))) (Some last) None) (λ o. or_last o last < n) (λ f. g)
    (λ f. cond_both (extends t last (up t (up t i))) (Some last) None (λ o. or_last o last < n) (λ h. low) (λ h. low)))
    (λ e. low)

place_low : (t : List Held) (held : ℕ) (id : List ℕ) (o : Option ℕ) → IfSome o (Found t held id) → 0 < held → or_last o 0 < held
place_low t held id None f some = some
place_low t held id (Some i) f some = f.within

-- a chain that a call leaves: its last committed block is held, and extends that of before
pub record Onward (m : Member) (t : List Held) (m' : Member) : Type 0 where
  pub low : m'.chain.last < m.held
  pub on : extends t m'.chain.last m.chain.last ≡ true

pub onward_left : (m : Member) (t : List Held) (carries : Option Statement) (m' : Member) → m.chain.last < m.held → ChainLeft m t carries m' → Onward m t m'
onward_left m t carries m' last (as_before e) =
    let same = ap (λ c. c.last) e in
    record { low = omega arith; on = ap (λ x. extends t x m.chain.last) same ∙ extends_self t m.chain.last }
onward_left m t carries m' last (seen s o e) =
    let i = place_of t m.held s in
    let same = ap (λ c. c.last) e in
    let here = place_low t m.held s.id (lookup t m.held s.id) (finds t s.id m.held).right (omega arith) in
    record {
      low = subst (λ x. x < m.held) (sym same) (committed_low t m.chain.last i m.held last here);
      on = ap (λ x. extends t x m.chain.last) same ∙ committed_on t m.chain.last i (commit t m.chain.last i) (commits t m.chain.last i);
    }
