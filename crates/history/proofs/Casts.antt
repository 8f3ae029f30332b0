-- A vote keeps the rules with each earlier one that the state remembers, and the state remembers it from then on.
use Rattle.std.proofs.Common.{◌<◌, ◌≤◌, subst, inl, inr, arith}
use Rattle.safety.specs.Ranks.{◌≼◌, rank}
use Rattle.safety.specs.Runs.{Run, grandparent}
use Rattle.safety.specs.Certificates.{ByWinner}
use Rattle.safety.specs.Rules.{Opening, Continuing, ExitLock, VotesInOrder}
use Rattle.safety.proofs.Ranks.{≼_refl, ≼_trans}
use Rattle.history.specs.States.{State}
use Rattle.history.specs.Effects.{after_regular_vote, after_fallback_vote}
use Rattle.history.specs.Moves.{RespectsLock, MayVoteRegular, MayVoteFallback}
use Rattle.history.proofs.Rows.{row_put}
use Rattle.history.proofs.Memory.{Remembers, Remembered}
use Rattle.history.proofs.Keeps.{row_stays, in_this_view}
use Rattle.history.proofs.Updates.{update_remembers}
use Rattle.std.proofs.lemmas.Bool.{cases_lt}

module _ {Block : Type 0} (r : Run Block) (s : State Block) (b : Block) where
  open r use {parent, view, round, height, proposer}

  -- what a lock before the vote gives
  locks : {x : Block} → Remembered r s x → RespectsLock r s b → Opening r x → rank r (grandparent r x) ≼ rank r (parent b)
  locks m k o = ≼_trans (m.locked o) k.above_lock

  exit_locks : {x : Block} → Remembered r s x → RespectsLock r s b → Continuing r x → ByWinner r x → view x < s.view → ExitLock r x b
  exit_locks m k c e past =
      let w = m.exit_locked c e past in
      record {
        seen = w.seen;
        certified = w.recorded.certified;
        fallback = w.recorded.is_fallback;
        same_view = w.recorded.this_view;
        same_proposer = w.recorded.this_proposer;
        covers_parent = w.covers;
        lock_kept = ≼_trans w.locks k.above_lock;
      }

  module _ (may : MayVoteRegular r s b) where
    pub regular_in_order : (x : Block) → Remembered r s x → VotesInOrder r x b
    regular_in_order x m = record {
      views_never_fall = omega arith;
      no_regular_after_fallback = λ v f. let e = m.in_fallback f (omega arith) in absurd (cc);
      rounds_rise = λ g h. omega arith;
      heights_rise = λ f g v p. absurd (omega arith);
      lock_kept = λ o p. locks m may.lock o;
      exit_lock_kept = λ c e o v. exit_locks m may.lock c e (omega arith);
      exit_round_kept = λ f e g v. omega arith;
    }

    pub regular_remembers : (x : Block) → Remembered r s x → Remembered r (after_regular_vote r s b) x
    regular_remembers x m = in_this_view r m (omega arith) (≼_refl _) (λ e. e) (row_stays r)

    pub regular_remembered : Remembered r (after_regular_vote r s b) b
    regular_remembered = record {
      reached = omega arith;
      in_fallback = λ f e. absurd (omega arith);
      voted_regular = λ g. omega arith;
      row_height = λ f e. absurd (omega arith);
      row_round = λ f e. absurd (omega arith);
      row_covers = λ c e. absurd (omega arith);
      locked = λ o. may.lock.parent_seen;
      exit_voted = λ f e p. absurd (omega arith);
      exit_locked = λ c e p. absurd (omega arith);
    }

  module _ (may : MayVoteFallback r s b) where
    pub fallback_in_order : (x : Block) → Remembered r s x → VotesInOrder r x b
    fallback_in_order x m = record {
      views_never_fall = omega arith;
      no_regular_after_fallback = λ v f. may.is_fallback;
      rounds_rise = λ g h. absurd (omega arith);
      heights_rise = λ f g v p.
          let below = subst (λ q. height x ≤ (s.rows q).voted_height) p (m.row_height f (omega arith)) in
          omega arith;
      lock_kept = λ o p. locks m (may.opens p) o;
      exit_lock_kept = λ c e o v. exit_locks m (may.opens o) c e (omega arith);
      exit_round_kept = λ f e g v. absurd (omega arith);
    }

    -- an opening vote is the first in its row
    pub fallback_remembers : (x : Block) → Remembered r s x → Remembered r (after_fallback_vote r s b) x
    fallback_remembers x =
        update_remembers r s (record {
          heights = omega arith;
          rounds = λ f h k.
              elim (cases_lt 1 (height b)) [ inl high ↦ omega (arith, (may.continues high).new_round) | inr low ↦ absurd (omega arith) ];
          covers = λ h. h;
        })

    pub fallback_remembered : Remembered r (after_fallback_vote r s b) b
    fallback_remembered =
        row_put (λ row. Remembers r s.view s.stage s.voted_round s.lock row b) s.rows (proposer b) (record {
          reached = omega arith;
          in_fallback = λ f e. may.in_fallback;
          voted_regular = λ g. absurd (omega arith);
          row_height = λ f e. omega arith;
          row_round = λ f e. omega arith;
          row_covers = λ c e. (may.continues c).parent_recorded;
          locked = λ o. (may.opens o).parent_seen;
          exit_voted = λ f e p. absurd (omega arith);
          exit_locked = λ c e p. absurd (omega arith);
        })
