-- What each move of a member changes.
use Rattle.std.specs.Prelude.{ℕ, suc, max, Bool, cond, ◌&&◌, ◌||◌, Some, None, Option, ◌==◌, nat_lt}
use Rattle.safety.specs.Ranks.{Rank, rank}
use Rattle.safety.specs.Runs.{Run}
use Rattle.history.specs.States.{Stage, steady, timedout, fallback, Row, State, empty_row}

abbrev pub ranks_below : Rank → Rank → Bool
ranks_below a b =
    nat_lt a.view b.view ||
    (a.view == b.view && (nat_lt a.kind b.kind || (a.kind == b.kind && nat_lt a.round b.round)))

-- the first at equal rank
abbrev pub higher : Rank → Rank → Rank
higher a b = cond (ranks_below a b) b a

-- the voted round after an exit, from the member's stage and voted round and the voted round of the winner's row: in fallback the greater
abbrev pub voted_after : Stage → ℕ → ℕ → ℕ
voted_after steady voted row_voted = voted
voted_after timedout voted row_voted = voted
voted_after fallback voted row_voted = max voted row_voted

module _ {Block : Type 0} where
  -- the rows with p's replaced
  abbrev pub with_row : (ℕ → Row Block) → ℕ → Row Block → ℕ → Row Block
  with_row rows p row q = cond (q == p) row (rows q)

  abbrev pub with_stage : State Block → Stage → State Block
  with_stage s stage = record { view = s.view; stage = stage; voted_round = s.voted_round; lock = s.lock; rows = s.rows }

  abbrev pub with_lock : State Block → Rank → State Block
  with_lock s lock = record { view = s.view; stage = s.stage; voted_round = s.voted_round; lock = lock; rows = s.rows }

  abbrev pub with_rows : State Block → (ℕ → Row Block) → State Block
  with_rows s rows = record { view = s.view; stage = s.stage; voted_round = s.voted_round; lock = s.lock; rows = rows }

module _ {Block : Type 0} (r : Run Block) where
  open r use {parent, round, height, proposer, winner}

  -- seeing a certificate raises the lock to the rank of the certified block's parent
  abbrev pub after_see : State Block → Block → State Block
  after_see s c = with_lock s (higher s.lock (rank r (parent c)))

  -- the first at equal rank
  abbrev pub higher_block : Option Block → Block → Option Block
  higher_block None c = Some c
  higher_block (Some h) c = Some (cond (ranks_below (rank r h) (rank r c)) c h)

  -- recording a certificate keeps it in its proposer's row, if it is higher
  abbrev pub after_record : State Block → Block → State Block
  after_record s c =
      let row = s.rows (proposer c) in
      with_rows s
      (with_row s.rows (proposer c)
      (record { voted_height = row.voted_height; voted_round = row.voted_round; highest = higher_block row.highest c }))

  abbrev pub after_regular_vote : State Block → Block → State Block
  after_regular_vote s b = record { view = s.view; stage = s.stage; voted_round = round b; lock = s.lock; rows = s.rows }

  -- a fallback vote leaves the voted round alone: its row takes height and round
  abbrev pub after_fallback_vote : State Block → Block → State Block
  after_fallback_vote s b =
      with_rows s
      (with_row s.rows (proposer b)
      (record { voted_height = height b; voted_round = round b; highest = (s.rows (proposer b)).highest }))

  -- the lock after an exit: the certificate that the winner's row held is seen, if any
  abbrev pub lock_after : Rank → Option Block → Rank
  lock_after lock None = lock
  lock_after lock (Some c) = higher lock (rank r (parent c))

  -- an exit takes voted round and lock from the winner's row, and only then empties the rows
  abbrev pub after_exit : State Block → State Block
  after_exit s =
      let row = s.rows (winner s.view) in
      record {
        view = suc s.view;
        stage = steady;
        voted_round = voted_after s.stage s.voted_round row.voted_round;
        lock = lock_after s.lock row.highest;
        rows = λ p. empty_row;
      }
