-- What every outcome comes to.
use Rattle.std.proofs.Common.{◌≡◌, List, [], ◌∷◌, Err, Option, sym, refl, ◌∙◌, subst, inl, arith}
use Rattle.attest.specs.declared.attestor.Attestor.{Ghosts}
use Rattle.coin.specs.declared.Coin.{Ghosts as CoinGhosts}
use Rattle.blocks.specs.declared.statement.Statement.{Statement}
use Rattle.blocks.specs.Statements.{rank_of}
use Rattle.table.specs.declared.held.Held.{Held}
use Rattle.wire.specs.declared.form.Form.{Form}
use Rattle.member.specs.declared.state.Member.{Member}
use Rattle.member.specs.declared.types.Refusal.{Refusal}
use Rattle.member.specs.Exit.{place_of}
use Rattle.member.specs.States.{Lent, Left}
use Rattle.laws.specs.Calls.{Call, timer, propose, deliver, after, Step, member_after}
use Rattle.laws.specs.Official.{ChainLeft, as_before, seen, carried_by, OnlyOfficial}
use Rattle.laws.specs.Rising.{NoLower, NeverFalls}
use Rattle.laws.specs.Signing.{Signs, SignsOnlyDue}
use Rattle.laws.specs.Unchanged.{Unchanged, RefusedChangesNothing}
use Rattle.laws.proofs.Outcomes.{Outcome, refuses, accepts, outcome}
use Rattle.laws.proofs.Unendorsed.{same_chain, unendorsed_refused}
use Rattle.laws.proofs.Rises.{Later, Higher, later_self, higher_self, see_higher, not_below, PastKept, past_kept, proposed_through}

-- a refused call changes nothing
unchanged : {S : Type 0} (m : Member) (l : Lent S) (Signed : S → Type 0) (carries : Option Statement) (left : Left S) → Outcome m l Signed carries left →
    (e : Refusal) → left.result ≡ Err e → Unchanged m l left
unchanged m l Signed carries left (refuses x) e is = record { member = refl; lent = refl }
unchanged m l Signed carries left (accepts a m' l' signed done) e is = cc

pub refused_changes_nothing_lem : {S C : Type 0} (g : Ghosts S) (k : CoinGhosts C) → RefusedChangesNothing S C g k
refused_changes_nothing_lem g k coin form m l call = unchanged m l (Signs g form m l call) (carried_by form call) (after g k coin form m l call) (outcome g k coin form m l call)

-- what never falls
chain_higher : (m : Member) (table : List Held) (carries : Option Statement) (m' : Member) → ChainLeft m table carries m' → Higher m.chain m'.chain
chain_higher m table carries m' (as_before e) = subst (Higher m.chain) (sym e) (higher_self m.chain)
chain_higher m table carries m' (seen s o e) = subst (Higher m.chain) (sym e) (see_higher m.chain table s (place_of table m.held s))

no_lower : (m m' : Member) → Later m.phase m'.phase → Higher m.chain m'.chain → PastKept m m' → NoLower m m'
no_lower m m' p c k = record {
  views = p.views;
  voted = p.voted;
  rounds = c.rounds;
  locks = c.locks;
  highs = c.highs;
  proposed = k.proposed;
  winners = k.winners;
}

itself : (m : Member) → NoLower m m
itself m = no_lower m m (later_self m.phase) (higher_self m.chain) (past_kept m m refl refl)

left_no_lower : {S : Type 0} (m : Member) (l : Lent S) (Signed : S → Type 0) (carries : Option Statement) (left : Left S) → Outcome m l Signed carries left →
    NoLower m left.member
left_no_lower m l Signed carries left (refuses x) = itself m
left_no_lower m l Signed carries left (accepts a m' l' signed done) = no_lower m m' done.phases (chain_higher m l.table carries m' done.chains) done.pasts

also : (a b c : Member) → NoLower a b → NoLower b c → NoLower a c
also a b c p q = record {
  views = omega arith;
  voted = omega arith;
  rounds = omega arith;
  locks = not_below a.chain.lock b.chain.lock c.chain.lock p.locks q.locks;
  highs = not_below (rank_of a.chain.high) (rank_of b.chain.high) (rank_of c.chain.high) p.highs q.highs;
  proposed = proposed_through a.proposed b.proposed c.proposed p.proposed q.proposed;
  winners = λ v low. q.winners v (let up = p.views in omega arith) ∙ p.winners v low;
}

module _ {S C : Type 0} (g : Ghosts S) (k : CoinGhosts C) (coin : C) (form : Form) where
  once : (m : Member) (l : Lent S) (call : Call) → NoLower m (after g k coin form m l call).member
  once m l call = left_no_lower m l (Signs g form m l call) (carried_by form call) (after g k coin form m l call) (outcome g k coin form m l call)

  ever : (m : Member) (steps : List (Step S)) → NoLower m (member_after g k coin form m steps)
  ever m [] = itself m
  ever m (s ∷ ss) =
      also m (after g k coin form m s.lent s.call).member (member_after g k coin form m (s ∷ ss)) (once m s.lent s.call)
      (ever (after g k coin form m s.lent s.call).member ss)

pub never_falls : {S C : Type 0} (g : Ghosts S) (k : CoinGhosts C) → NeverFalls S C g k
never_falls g k = record { once = once g k; ever = ever g k }

-- what is signed
as_due : {S : Type 0} (m : Member) (l : Lent S) (Signed : S → Type 0) (carries : Option Statement) (left : Left S) → Signed l.attestor → Outcome m l Signed carries left →
    Signed left.lent.attestor
as_due m l Signed carries left same (refuses x) = same
as_due m l Signed carries left same (accepts a m' l' signed done) = signed

signs_nothing : {S : Type 0} (g : Ghosts S) (form : Form) (m : Member) (l : Lent S) (call : Call) → Signs g form m l call l.attestor
signs_nothing g form m l timer = inl refl
signs_nothing g form m l (propose payload) = refl
signs_nothing g form m l (deliver sheet message) = inl refl

pub signs_only_due_lem : {S C : Type 0} (g : Ghosts S) (k : CoinGhosts C) → SignsOnlyDue S C g k
signs_only_due_lem g k coin form m l call =
    as_due m l (Signs g form m l call) (carried_by form call) (after g k coin form m l call) (signs_nothing g form m l call) (outcome g k coin form m l call)

-- what moves the chain
pub chain_left : {S : Type 0} (m : Member) (l : Lent S) (Signed : S → Type 0) (carries : Option Statement) (left : Left S) → Outcome m l Signed carries left →
    ChainLeft m l.table carries left.member
chain_left m l Signed carries left (refuses x) = as_before refl
chain_left m l Signed carries left (accepts a m' l' signed done) = done.chains

pub only_official_lem : {S C : Type 0} (g : Ghosts S) (k : CoinGhosts C) → OnlyOfficial S C g k
only_official_lem {S} {C} g k = record {
  chains = chains;
  this_view = λ coin form m l call s carries this. same_chain m l.table (carried_by form call) (after g k coin form m l call).member s carries this (chains coin form m l call);
  refused = λ coin form m l call s carries un. unendorsed_refused g k coin form m l s un call carries;
}
  where
    chains : (coin : C) (form : Form) (m : Member) (l : Lent S) (call : Call) → ChainLeft m l.table (carried_by form call) (after g k coin form m l call).member
    chains coin form m l call = chain_left m l (Signs g form m l call) (carried_by form call) (after g k coin form m l call) (outcome g k coin form m l call)
