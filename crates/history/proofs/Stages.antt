-- The stages, and the voted round after an exit.
use Rattle.std.proofs.Common.{◌≡◌, ℕ, ◌≤◌, arith}
use Rattle.history.specs.States.{Stage, steady, timedout, fallback}
use Rattle.history.specs.Effects.{voted_after}

pub voted_rises : (g : Stage) (voted round : ℕ) → voted ≤ voted_after g voted round
voted_rises steady voted round = omega arith
voted_rises timedout voted round = omega arith
voted_rises fallback voted round = omega arith

pub row_counts : (g : Stage) (voted round : ℕ) → g ≡ fallback → round ≤ voted_after g voted round
row_counts steady voted round e = absurd (cc)
row_counts timedout voted round e = absurd (cc)
row_counts fallback voted round e = omega arith
