-- An exit remembers: what the winner's row remembered of a vote passes to the voted round and the lock.
use Rattle.std.proofs.Common.{◌≡◌, ◌≤◌, Some, None, Option, sym, ap, ◌∙◌, subst, arith}
use Rattle.safety.specs.Ranks.{Rank, ◌≼◌, rank}
use Rattle.safety.specs.Runs.{Run, Fallback}
use Rattle.safety.specs.Certificates.{ByWinner}
use Rattle.safety.specs.Rules.{Continuing}
use Rattle.safety.proofs.Ranks.{≼_refl}
use Rattle.history.specs.States.{State}
use Rattle.history.specs.Effects.{voted_after, lock_after, after_exit}
use Rattle.history.specs.Moves.{Holds}
use Rattle.history.proofs.Ranks.{higher_first, higher_second}
use Rattle.history.proofs.Stages.{voted_rises, row_counts}
use Rattle.history.proofs.Rows.{All}
use Rattle.history.proofs.Memory.{Recorded, ExitLocked, Remembered, RowsRecorded}
use Rattle.history.proofs.Keeps.{in_later_view}

module _ {Block : Type 0} (r : Run Block) where
  open r use {parent, view, round, height, proposer, winner}

  lock_rises : (lock : Rank) (o : Option Block) → lock ≼ lock_after r lock o
  lock_rises lock None = ≼_refl lock
  lock_rises lock (Some c) = higher_first _ _

  locks_held : (lock : Rank) (o : Option Block) {x : Block} → All o (Recorded r (view x) (proposer x)) →
      Holds o (λ c. rank r (parent x) ≼ rank r c) → ExitLocked r x (lock_after r lock o)
  locks_held lock None a h = absurd h
  locks_held lock (Some c) a h = record { seen = c; recorded = a; covers = h; locks = higher_second _ _ }

  module _ (s : State Block) (x : Block) (m : Remembered r s x) where
    winner_row : ByWinner r x → view x ≡ s.view → s.rows (proposer x) ≡ s.rows (winner s.view)
    winner_row e now = ap s.rows (e ∙ ap winner now)

    exit_voted : Fallback r x → ByWinner r x → view x ≡ s.view → round x ≤ (after_exit r s).voted_round
    exit_voted f e now =
        let row = s.rows (proposer x) in
        let counts = row_counts s.stage s.voted_round row.voted_round (m.in_fallback f now) in
        subst (λ row. round x ≤ voted_after s.stage s.voted_round row.voted_round) (winner_row e now) (omega arith)

    exit_locked : RowsRecorded r s → Continuing r x → ByWinner r x → view x ≡ s.view → ExitLocked r x (after_exit r s).lock
    exit_locked rows c e now =
        let row = s.rows (proposer x) in
        let recorded = subst (λ v. All row.highest (Recorded r v (proposer x))) (sym now) (rows (proposer x)) in
        subst (λ row. ExitLocked r x (lock_after r s.lock row.highest)) (winner_row e now)
        (locks_held s.lock row.highest recorded (m.row_covers c now))

  pub exit_remembers : (s : State Block) → RowsRecorded r s → (x : Block) → Remembered r s x → Remembered r (after_exit r s) x
  exit_remembers s rows x m =
      in_later_view r m (voted_rises s.stage s.voted_round _) (lock_rises s.lock _) (omega arith) (exit_voted s x m) (exit_locked s x m rows)
