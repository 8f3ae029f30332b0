-- A state remembers what it did as long as its parts rise.
use Rattle.std.proofs.Common.{◌≡◌, ℕ, ◌<◌, ◌≤◌, inl, inr, arith}
use Rattle.safety.specs.Ranks.{Rank, ◌≼◌, rank}
use Rattle.safety.specs.Runs.{Run, Fallback}
use Rattle.safety.specs.Certificates.{ByWinner}
use Rattle.safety.specs.Rules.{Continuing}
use Rattle.safety.proofs.Ranks.{≼_trans}
use Rattle.history.specs.States.{Stage, fallback, Row}
use Rattle.history.specs.Moves.{Holds}
use Rattle.history.proofs.Memory.{Remembers, ExitLocked}
use Rattle.std.proofs.lemmas.Bool.{cases_lt}

module _ {Block : Type 0} (r : Run Block) where
  open r use {parent, view, round, height}

  -- a row rises, as far as a vote for x is concerned
  pub record RowRises (row row' : Row Block) (x : Block) : Type 0 where
    pub heights : row.voted_height ≤ row'.voted_height
    pub rounds : Fallback r x → height x ≤ row.voted_height → round x ≤ row.voted_round → round x ≤ row'.voted_round
    pub covers : Holds row.highest (λ c. rank r (parent x) ≼ rank r c) → Holds row'.highest (λ c. rank r (parent x) ≼ rank r c)

  pub row_stays : {row : Row Block} {x : Block} → RowRises row row x
  row_stays = record { heights = omega arith; rounds = λ f h k. k; covers = λ h. h }

  exit_locked_on : {x : Block} {l l' : Rank} → l ≼ l' → ExitLocked r x l → ExitLocked r x l'
  exit_locked_on up k = record { seen = k.seen; recorded = k.recorded; covers = k.covers; locks = ≼_trans k.locks up }

module _ {Block : Type 0} (r : Run Block) {v voted voted' : ℕ} {stage stage' : Stage} {lock lock' : Rank} {row row' : Row Block} {x : Block}
    (m : Remembers r v stage voted lock row x) (voted_up : voted ≤ voted') (lock_up : lock ≼ lock') where
  open r use {parent, view, round, height}

  pub in_this_view : (stage ≡ fallback → stage' ≡ fallback) → RowRises r row row' x → Remembers r v stage' voted' lock' row' x
  in_this_view stays up = record {
    reached = m.reached;
    in_fallback = λ f e. stays (m.in_fallback f e);
    voted_regular = λ g. omega arith;
    row_height = λ f e. omega arith;
    row_round = λ f e. up.rounds f (m.row_height f e) (m.row_round f e);
    row_covers = λ c e. up.covers (m.row_covers c e);
    locked = λ o. ≼_trans (m.locked o) lock_up;
    exit_voted = λ f e p. omega arith;
    exit_locked = λ c e p. exit_locked_on r lock_up (m.exit_locked c e p);
  }

  pub in_later_view : {v' : ℕ} → v < v' → (Fallback r x → ByWinner r x → view x ≡ v → round x ≤ voted') →
      (Continuing r x → ByWinner r x → view x ≡ v → ExitLocked r x lock') → Remembers r v' stage' voted' lock' row' x
  in_later_view later exit_voted exit_locked = record {
    reached = omega arith;
    in_fallback = λ f e. absurd (omega arith);
    voted_regular = λ g. omega arith;
    row_height = λ f e. absurd (omega arith);
    row_round = λ f e. absurd (omega arith);
    row_covers = λ c e. absurd (omega arith);
    locked = λ o. ≼_trans (m.locked o) lock_up;
    exit_voted = λ f e p.
        elim (cases_lt (view x) v) [
          | inl past ↦ omega arith
          | inr now ↦ exit_voted f e (omega arith)
        ];
    exit_locked = λ c e p.
        elim (cases_lt (view x) v) [
          | inl past ↦ exit_locked_on r lock_up (m.exit_locked c e past)
          | inr now ↦ exit_locked c e (omega arith)
        ];
  }
