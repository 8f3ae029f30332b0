use Rattle.std.proofs.Common.{arith}
use Rattle.tally.proofs.Counts.{met_at_most, met_within}
use Rattle.tally.proofs.places.kept_alike.Goals as goal

pub returns-clause-within : goal.returns-clause-within
returns-clause-within g c = met_within g.T.Item.alike c.args.item.now _ 0 c.args.places.now (omega arith)

pub returns-clause-most : goal.returns-clause-most
returns-clause-most g c = met_at_most g.T.Item.alike c.args.item.now 0 c.args.places.now
