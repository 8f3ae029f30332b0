-- What a phase or a chain becomes is not below what it was.
use Rattle.std.proofs.Common.{◌≡◌, ℕ, ◌<◌, ◌≤◌, Bool, true, false, cond, List, get_or, Some, None, sym, ap, subst, arith, get_or-set_other}
use Rattle.std.proofs.lemmas.Bool.{cond_both}
use Rattle.std.proofs.lemmas.Bool.Decides.{nat_tests}
use Rattle.blocks.specs.declared.head.Head.{Head}
use Rattle.blocks.specs.declared.rank.Rank.{Rank}
use Rattle.blocks.specs.declared.rank.Round.{Round}
use Rattle.blocks.specs.declared.statement.Statement.{Statement}
use Rattle.blocks.specs.Ranks.{less_rank}
use Rattle.blocks.specs.Statements.{rank_of}
use Rattle.blocks.proofs.Ordered.{ordered}
use Rattle.table.specs.declared.held.Held.{Held}
use Rattle.member.specs.declared.state.Chain.{Chain}
use Rattle.member.specs.declared.state.Member.{Member}
use Rattle.member.specs.declared.state.Phase.{Phase}
use Rattle.member.specs.declared.state.Proposed.{Proposed}
use Rattle.member.specs.declared.rows.Row.{Row}
use Rattle.member.specs.Exit.{exit_phase, exit_to}
use Rattle.member.specs.Propose.{less_proposed}
use Rattle.member.specs.See.{is_fallback, see, raises}
use Rattle.member.specs.States.{row_of, winner_of}
use Rattle.member.specs.Votes.{votes, votes_regular, votes_fallback, voted_phase}

pub record Later (p p' : Phase) : Type 0 where
  pub views : p.view.0 ≤ p'.view.0
  pub voted : p.voted.0 ≤ p'.voted.0

pub record Higher (c c' : Chain) : Type 0 where
  pub rounds : c.round.0 ≤ c'.round.0
  pub locks : less_rank c'.lock c.lock ≡ false
  pub highs : less_rank (rank_of c'.high) (rank_of c.high) ≡ false

pub later_self : (p : Phase) → Later p p
later_self p = record { views = omega arith; voted = omega arith }

pub higher_self : (c : Chain) → Higher c c
higher_self c = record { rounds = omega arith; locks = ordered.irreflexive c.lock; highs = ordered.irreflexive (rank_of c.high) }

pub not_below : (a b c : Rank) → less_rank b a ≡ false → less_rank c b ≡ false → less_rank c a ≡ false
not_below a b c p q = grind (arith, nat_tests)

above_not_below : (a b : Rank) → less_rank a b ≡ true → less_rank b a ≡ false
above_not_below a b p = grind (arith, nat_tests)

pub see_higher : (c : Chain) (table : List Held) (s : Statement) (i : ℕ) → Higher c (see c table s i)
see_higher c table s i = record {
  rounds = omega arith;
  locks = cond_both (less_rank c.lock _) _ c.lock (λ r. less_rank r c.lock ≡ false) (λ e. above_not_below c.lock _ e) (λ e. ordered.irreflexive c.lock);
  highs = cond_both (raises c.high s) s c.high (λ t. less_rank (rank_of t) (rank_of c.high) ≡ false) (λ e. above_not_below (rank_of c.high) (rank_of s) e)
      (λ e. ordered.irreflexive (rank_of c.high));
}

-- a regular vote's round is above the voted round
above_voted : (p : Phase) (c : Chain) (h : Head) (parent : Rank) → votes_regular p c h parent ≡ true → p.voted.0 < h.round.0
above_voted p c h parent e = grind (arith, nat_tests)

rising : (fallback f r : Bool) (v w : Round) → cond fallback f r ≡ true → (r ≡ true → v.0 < w.0) → v.0 ≤ (cond fallback v w).0
rising true f r v w e low = omega arith
rising false f r v w e low = omega (arith, low e)

pub vote_later : (p : Phase) (c : Chain) (rows : List Row) (h : Head) (parent : Rank) → votes p c rows h parent ≡ true → Later p (voted_phase p h)
vote_later p c rows h parent e = record {
  views = omega arith;
  voted = rising (is_fallback h.kind) (votes_fallback p c (row_of rows h.proposer) h parent) (votes_regular p c h parent) p.voted h.round e (above_voted p c h parent);
}

pub exit_later : (p : Phase) (r : Row) → Later p (exit_phase p r)
exit_later p r = record {
  views = omega arith;
  voted = grind (arith, nat_tests);
}

-- what was proposed last, and who won the views that ended
pub record PastKept (m m' : Member) : Type 0 where
  pub proposed : less_proposed m'.proposed m.proposed ≡ false
  pub winners : (v : ℕ) → v < m.phase.view.0 → winner_of m' v ≡ winner_of m v

not_proposed_below : (p : Proposed) → less_proposed p p ≡ false
not_proposed_below p = grind (arith, nat_tests)

pub above_not_proposed_below : (p q : Proposed) → less_proposed p q ≡ true → less_proposed q p ≡ false
above_not_proposed_below p q e = grind (arith, nat_tests)

pub proposed_through : (p q r : Proposed) → less_proposed q p ≡ false → less_proposed r q ≡ false → less_proposed r p ≡ false
proposed_through p q r a b = grind (arith, nat_tests)

pub past_kept : (m m' : Member) → m'.proposed ≡ m.proposed → m'.winners ≡ m.winners → PastKept m m'
past_kept m m' p w = record {
  proposed = subst (λ x. less_proposed x m.proposed ≡ false) (sym p) (not_proposed_below m.proposed);
  winners = λ v low. ap (λ x. get_or x v None) w;
}

-- at exit the winner of the view that ends is noted
pub exit_kept : (m : Member) (chain : Chain) (w : ℕ) → PastKept m (exit_to m chain w)
exit_kept m chain w = record {
  proposed = not_proposed_below m.proposed;
  winners = λ v low. get_or-set_other m.winners m.phase.view.0 v (Some w) None (omega arith);
}
