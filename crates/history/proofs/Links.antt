-- For a layer above, in which a call is a few moves: moves joined, states equal by their parts, and what the certificate that comes with a
-- proposal gives for the vote.
use Rattle.std.proofs.Common.{◌≡◌, ℕ, List, ◌++◌, sym, subst, append_assoc, append-nil}
use Rattle.safety.specs.Ranks.{◌≼◌, rank}
use Rattle.safety.specs.Runs.{Run, grandparent}
use Rattle.history.specs.States.{State}
use Rattle.history.specs.Effects.{after_see, after_record}
use Rattle.history.specs.Moves.{Moves, start, ◌then◌, Holds}
use Rattle.history.proofs.Ranks.{higher_second}
use Rattle.history.proofs.Rows.{row_cases, higher_new}

pub same_state : {Block : Type 0} (s t : State Block) → s.view ≡ t.view → s.stage ≡ t.stage → s.voted_round ≡ t.voted_round → s.lock ≡ t.lock →
    ((p : ℕ) → s.rows p ≡ t.rows p) → s ≡ t
same_state s t view stage voted lock rows =
    λ i. record { view = view i; stage = stage i; voted_round = voted i; lock = lock i; rows = λ p. rows p i }

module _ {Block : Type 0} (r : Run Block) where
  open r use {parent, proposer}

  pub joined : {s t u : State Block} {votes more : List Block} → Moves r s votes t → Moves r t more u → Moves r s (votes ++ more) u
  joined {s} {t} {votes = votes} a start = subst (λ l. Moves r s l t) (sym (append-nil votes)) a
  joined {s} {u = u} {votes = votes} a (◌then◌ {votes = some} {cast = cast} b m) =
      subst (λ l. Moves r s l u) (append_assoc votes some cast) (joined a b then m)

  -- once the parent's certificate is seen
  pub parent_seen : (s : State Block) (b : Block) → rank r (grandparent r b) ≼ (after_see r s (parent b)).lock
  parent_seen s b = higher_second _ _

  -- once the parent's certificate is recorded
  pub parent_recorded : (s : State Block) (b : Block) → proposer (parent b) ≡ proposer b →
      Holds ((after_record r s (parent b)).rows (proposer b)).highest (λ c. rank r (parent b) ≼ rank r c)
  parent_recorded s b same =
      row_cases (λ row. Holds row.highest (λ c. rank r (parent b) ≼ rank r c)) s.rows (proposer (parent b)) _ (proposer b)
      (λ here. higher_new r (s.rows (proposer (parent b))).highest (parent b))
      (λ other. absurd (other (sym same)))
