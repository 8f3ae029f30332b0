use Rattle.wire.proofs.MessageTrips.{entries_hold_lem}
use Rattle.wire.proofs.laws.entries_hold.Goals as goal

pub returns : goal.returns
returns c = entries_hold_lem
