use Rattle.tally.proofs.Example.{third_reaches_lem}
use Rattle.tally.proofs.laws.third_reaches.Goals as goal

pub returns : goal.returns
returns g c = third_reaches_lem g.met.T.Item.likeness
