-- What a member's state remembers of the votes that it has cast.
use Rattle.std.proofs.Common.{◌≡◌, ℕ, ◌<◌, ◌≤◌, List}
use Rattle.safety.specs.Lists.{◌∈◌}
use Rattle.safety.specs.Ranks.{Rank, ◌≼◌, rank}
use Rattle.safety.specs.Runs.{Run, Regular, Fallback, grandparent}
use Rattle.safety.specs.Certificates.{Certified, ByWinner}
use Rattle.safety.specs.Rules.{Opening, Continuing, KeepsTheRules}
use Rattle.history.specs.States.{Stage, fallback, Row, State}
use Rattle.history.specs.Moves.{Holds}
use Rattle.history.proofs.Rows.{All}

module _ {Block : Type 0} (r : Run Block) where
  open r use {parent, view, round, height, proposer}

  -- c was recorded in the row of p, in view v
  pub record Recorded (v p : ℕ) (c : Block) : Type 0 where
    pub certified : Certified r c
    pub is_fallback : Fallback r c
    pub this_view : view c ≡ v
    pub this_proposer : proposer c ≡ p

  -- the lock covers what was seen at the exit of x's view
  pub record ExitLocked (x : Block) (lock : Rank) : Type 0 where
    pub seen : Block
    pub recorded : Recorded (view x) (proposer x) seen
    pub covers : rank r (parent x) ≼ rank r seen
    pub locks : rank r (parent seen) ≼ lock

  -- of a vote for x, in a state of these parts and with this row of x's proposer
  pub record Remembers (v : ℕ) (stage : Stage) (voted : ℕ) (lock : Rank) (row : Row Block) (x : Block) : Type 0 where
    pub reached : view x ≤ v
    pub in_fallback : Fallback r x → view x ≡ v → stage ≡ fallback
    pub voted_regular : Regular r x → round x ≤ voted
    pub row_height : Fallback r x → view x ≡ v → height x ≤ row.voted_height
    pub row_round : Fallback r x → view x ≡ v → round x ≤ row.voted_round
    pub row_covers : Continuing r x → view x ≡ v → Holds row.highest (λ c. rank r (parent x) ≼ rank r c)
    pub locked : Opening r x → rank r (grandparent r x) ≼ lock
    pub exit_voted : Fallback r x → ByWinner r x → view x < v → round x ≤ voted
    pub exit_locked : Continuing r x → ByWinner r x → view x < v → ExitLocked x lock

  abbrev pub Remembered : State Block → Block → Type 0
  Remembered s x = Remembers s.view s.stage s.voted_round s.lock (s.rows (proposer x)) x

  -- what stands in the rows
  abbrev pub RowsRecorded : State Block → Type 0
  RowsRecorded s = (p : ℕ) → All (s.rows p).highest (Recorded s.view p)

  -- between the votes so far and the state
  pub record Invariant (votes : List Block) (s : State Block) : Type 0 where
    pub remembered : (x : Block) → x ∈ votes → Remembered s x
    pub recorded : RowsRecorded s
    pub rules : KeepsTheRules r votes
