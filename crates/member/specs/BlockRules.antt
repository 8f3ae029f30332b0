-- The block rules, judged from the message's own bytes; only `mismatched` looks at the table.
use Rattle.std.specs.Prelude.{ℕ, ◌+◌, Bool, false, cond, not, ◌&&◌, ◌||◌, List, is_some, Some, None, Option, ◌==◌, nat_le, nat_lt}
use Rattle.std.specs.Str.{bytes_eq}
use Rattle.blocks.specs.declared.head.Head.{Head}
use Rattle.blocks.specs.declared.rank.View.{View}
use Rattle.blocks.specs.declared.statement.Statement.{Statement}
use Rattle.blocks.specs.Ranks.{leader}
use Rattle.blocks.specs.Sameness.{same_statement}
use Rattle.table.specs.declared.held.Held.{Held}
use Rattle.table.specs.Places.{at, lookup, statement_of}
use Rattle.member.specs.See.{is_fallback}

-- a regular proposer is its round's leader
abbrev pub led : ℕ → Head → Bool
led n h = is_fallback h.kind || h.proposer == leader n h.round.0

-- the round is the parent's + 1, and the parent's id is the certified one
abbrev pub follows : Head → Statement → Bool
follows h s = h.round.0 == s.round.0 + 1 && bytes_eq h.parent s.id

-- a certificate under a regular or height-1 block, or in a timeout, of this view: regular of no later view, or fallback of an earlier one
abbrev pub opens : View → Statement → Bool
opens v s = cond (is_fallback s.kind) (nat_lt s.view.0 v.0) (nat_le s.view.0 v.0)

-- a certificate under height 2 or 3: fallback, of the same view and proposer, and one height less
abbrev pub continues : Head → Statement → Bool
continues h s =
    is_fallback s.kind
    && (s.view.0 == h.view.0 && (s.proposer == h.proposer && s.height + 1 == h.height))

abbrev pub stands : Head → Statement → Bool
stands h s = cond (nat_lt 1 h.height) (continues h s) (opens h.view s)

-- a block of the id is held, and the statement says something else of it
abbrev pub differs : List Held → Statement → Option ℕ → Bool
differs table s None = false
differs table s (Some i) = not (same_statement s (statement_of (at table i)))

abbrev pub mismatched : List Held → ℕ → Statement → Bool
mismatched table held s = differs table s (lookup table held s.id)

-- no block of the id is held
abbrev pub missing : List Held → ℕ → Statement → Bool
missing table held s = not (is_some (lookup table held s.id))

abbrev pub proposal_breaks : ℕ → List Held → ℕ → Head → Statement → Bool
proposal_breaks n table held h s = not (led n h) || (not (follows h s) || (not (stands h s) || mismatched table held s))
