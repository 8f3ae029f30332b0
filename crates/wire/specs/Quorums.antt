-- How many members make a quorum, and what a message is read against.
use Rattle.std.specs.Prelude.{ℕ, ◌+◌, ◌*◌}
use Rattle.coin.specs.Shares.{faults}

-- 2 f + 1 of n = 3 f + 1 members
abbrev pub quorum : ℕ → ℕ
quorum n = 2 * faults n + 1
