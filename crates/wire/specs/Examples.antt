-- Worked examples of quorums.
use Rattle.std.specs.Prelude.{◌≡◌}
use Rattle.wire.specs.Quorums.{quorum}

pub record Examples : Type 0 where
  pub of_4 : quorum 4 ≡ 3
  pub of_13 : quorum 13 ≡ 9
