-- By induction over a history the state remembers the votes, and so they keep the rules.
use Rattle.std.proofs.Common.{List, ◌++◌, inl, inr}
use Rattle.safety.specs.Runs.{Run}
use Rattle.safety.specs.Theorems.{OneChain}
use Rattle.safety.proofs.Commits.{one_chain_lem}
use Rattle.history.specs.States.{State}
use Rattle.history.specs.Moves.{Move, History, start, ◌then◌}
use Rattle.history.specs.Theorems.{HistoryKeepsTheRules, ByMoves, MovesKeepTheRules}
use Rattle.history.proofs.Lists.{in_either, before_either}
use Rattle.history.proofs.Memory.{Invariant}
use Rattle.history.proofs.Moves.{keeps}

module _ {Block : Type 0} (r : Run Block) where
  step : {votes cast : List Block} {s t : State Block} → Invariant r votes s → Move r s cast t → Invariant r (votes ++ cast) t
  step {votes} {cast} i m =
      let k = keeps r m i.recorded in
      record {
        remembered = λ x j.
            elim (in_either votes cast x j) [
              | inl old ↦ k.remembers x (i.remembered x old)
              | inr new ↦ (k.well x new).remembered
            ];
        recorded = k.recorded;
        rules = record {
          votable = λ x j. elim (in_either votes cast x j) [ inl old ↦ i.rules.votable x old | inr new ↦ (k.well x new).votable ];
          ordered = λ x y j.
              elim (before_either votes cast x y j) [
                | inl old ↦ i.rules.ordered x y old
                | inr (inl (old, new)) ↦ (k.well y new).in_order x (i.remembered x old)
                | inr (inr new) ↦ absurd (k.one_at_most x y new)
              ];
        };
      }

  invariant : {votes : List Block} {s : State Block} → History r votes s → Invariant r votes s
  invariant start = record {
    remembered = λ x i. absurd i;
    recorded = λ p. tt;
    rules = record { votable = λ x i. absurd i; ordered = λ x y b. absurd b };
  }
  invariant (h then m) = step (invariant h) m

pub history_keeps_the_rules_lem : (Block : Type 0) → HistoryKeepsTheRules Block
history_keeps_the_rules_lem Block r votes s h = (invariant r h).rules

pub moves_keep_the_rules_lem : (Block : Type 0) → MovesKeepTheRules Block
moves_keep_the_rules_lem Block r by_moves = record {
  few_faults = by_moves.few_faults;
  start = by_moves.start;
  rules = λ m honest. (invariant r (by_moves.moves m honest).1).rules;
}

pub moves_keep_one_chain_lem : (Block : Type 0) → OneChain Block ByMoves
moves_keep_one_chain_lem Block r by_moves = one_chain_lem Block r (moves_keep_the_rules_lem Block r by_moves)
