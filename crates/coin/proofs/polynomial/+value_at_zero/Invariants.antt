use Rattle.std.proofs.Common.{◌≡◌, ◌++◌, map, length, take, drop}
use Rattle.coin.specs.Interpolation.{reduce}
use Rattle.coin.proofs.polynomial.+value_at_zero.Given as goal

abbrev pub decreases-value_at_zero : goal.decreases-value_at_zero
decreases-value_at_zero l = length l.points.now

abbrev pub invariant-loop-other : goal.invariant-loop-other
invariant-loop-other l = l.rest ≡ map (reduce l.first) (take l.other-index l.initial.rest) ++ drop l.other-index l.initial.rest
