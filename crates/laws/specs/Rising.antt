-- What never falls.
use Rattle.std.specs.Prelude.{◌≡◌, ℕ, ◌<◌, ◌≤◌, false, List}
use Rattle.attest.specs.declared.attestor.Attestor.{Ghosts}
use Rattle.coin.specs.declared.Coin.{Ghosts as CoinGhosts}
use Rattle.blocks.specs.Ranks.{less_rank}
use Rattle.blocks.specs.Statements.{rank_of}
use Rattle.wire.specs.declared.form.Form.{Form}
use Rattle.member.specs.declared.state.Member.{Member}
use Rattle.member.specs.Propose.{less_proposed}
use Rattle.member.specs.States.{Lent, winner_of}
use Rattle.laws.specs.Calls.{Call, after, Step, member_after}

-- neither the view nor the voted round, the round, the lock, the highest certificate's rank or what was proposed last is below what it was, and
-- the winners of ended views stay noted
pub record NoLower (m m' : Member) : Type 0 where
  pub views : m.phase.view.0 ≤ m'.phase.view.0
  pub voted : m.phase.voted.0 ≤ m'.phase.voted.0
  pub rounds : m.chain.round.0 ≤ m'.chain.round.0
  pub locks : less_rank m'.chain.lock m.chain.lock ≡ false
  pub highs : less_rank (rank_of m'.chain.high) (rank_of m.chain.high) ≡ false
  pub proposed : less_proposed m'.proposed m.proposed ≡ false
  pub winners : (v : ℕ) → v < m.phase.view.0 → winner_of m' v ≡ winner_of m v

pub record NeverFalls (S C : Type 0) (g : Ghosts S) (k : CoinGhosts C) : Type 0 where
  -- by one call
  pub once : (coin : C) (form : Form) (m : Member) (l : Lent S) (call : Call) → NoLower m (after g k coin form m l call).member
  -- by any calls, whatever each is lent
  pub ever : (coin : C) (form : Form) (m : Member) (steps : List (Step S)) → NoLower m (member_after g k coin form m steps)
