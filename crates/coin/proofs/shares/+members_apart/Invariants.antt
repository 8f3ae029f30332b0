use Rattle.std.proofs.Common.{length}
use Rattle.coin.proofs.shares.+members_apart.Given as goal

abbrev pub decreases-members_apart : goal.decreases-members_apart
decreases-members_apart l = length l.shares.now
