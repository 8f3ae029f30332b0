use Rattle.tally.proofs.Lawful.{tally_laws}
use Rattle.tally.proofs.laws.tallies_are_lawful.Goals as goal

pub returns : goal.returns
returns g c = tally_laws g.met.T.Item.likeness
