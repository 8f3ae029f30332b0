-- The example, computed from the definitions and the laws of likeness.
use Rattle.std.proofs.Common.{Bool}
use Rattle.tally.specs.Likeness.{Likeness}
use Rattle.tally.specs.Example.{ThirdReaches}

pub third_reaches_lem : {T : Type 0} {above alike : T → T → Bool} → Likeness above alike → ThirdReaches above alike
third_reaches_lem laws x y z xy yz =
    rw (laws.itself x, xy, laws.itself y, laws.joined x y z xy yz, yz, laws.itself z, laws.irreflexive y)
