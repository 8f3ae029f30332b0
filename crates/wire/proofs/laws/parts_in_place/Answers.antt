use Rattle.wire.proofs.MessageTrips.{parts_in_place_lem}
use Rattle.wire.proofs.laws.parts_in_place.Goals as goal

pub returns : goal.returns
returns c = parts_in_place_lem
