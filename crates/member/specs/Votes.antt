-- When a member votes for a block, and what it remembers of the vote.
use Rattle.std.specs.Prelude.{ℕ, Bool, cond, not, ◌&&◌, List, ◌==◌, nat_lt}
use Rattle.blocks.specs.declared.head.Head.{Head}
use Rattle.blocks.specs.declared.rank.Rank.{Rank}
use Rattle.blocks.specs.declared.statement.Statement.{Statement}
use Rattle.blocks.specs.Ranks.{leader, less_rank}
use Rattle.member.specs.declared.state.Chain.{Chain}
use Rattle.member.specs.declared.state.Phase.{Phase}
use Rattle.member.specs.declared.rows.Row.{Row}
use Rattle.member.specs.Words.{is_steady, is_in_fallback}
use Rattle.member.specs.See.{is_fallback, next_round}
use Rattle.member.specs.States.{row_of, set_row}

-- a parent of this rank does not lie below the lock
abbrev pub respects_lock : Chain → Rank → Bool
respects_lock c parent = not (less_rank parent c.lock)

-- on a regular block: stage steady, this view, the member's own round, above the voted round, and the lock respected
abbrev pub votes_regular : Phase → Chain → Head → Rank → Bool
votes_regular p c h parent =
    is_steady p.stage
    && (h.view.0 == p.view.0
    && (h.round.0 == c.round.0 && (nat_lt p.voted.0 h.round.0 && respects_lock c parent)))

-- on a fallback block: stage fallback, this view, a height above the row's; at height 1 the lock respected, above it a round above the row's
abbrev pub votes_fallback : Phase → Chain → Row → Head → Rank → Bool
votes_fallback p c r h parent =
    is_in_fallback p.stage
    && (h.view.0 == p.view.0
    && (nat_lt r.height h.height && cond (h.height == 1) (respects_lock c parent) (nat_lt r.round.0 h.round.0)))

abbrev pub votes : Phase → Chain → List Row → Head → Rank → Bool
votes p c rows h parent =
    cond (is_fallback h.kind) (votes_fallback p c (row_of rows h.proposer) h parent) (votes_regular p c h parent)

-- a regular vote's round is remembered as the voted round, a fallback vote's height and round in the proposer's row
abbrev pub voted_phase : Phase → Head → Phase
voted_phase p h = record { view = p.view; stage = p.stage; voted = cond (is_fallback h.kind) p.voted h.round }

abbrev pub voted_row : Row → Head → Row
voted_row r h = record { height = h.height; round = h.round; certificate = r.certificate }

abbrev pub voted_rows : List Row → Head → List Row
voted_rows rows h = cond (is_fallback h.kind) (set_row rows h.proposer (voted_row (row_of rows h.proposer) h)) rows

-- votes on a regular block go to the leader of the next round, those on a fallback block to its proposer
abbrev pub collector : ℕ → Statement → ℕ
collector n s = cond (is_fallback s.kind) s.proposer (leader n (next_round s.round.0))
