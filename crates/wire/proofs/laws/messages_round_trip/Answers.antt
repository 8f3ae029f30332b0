use Rattle.wire.proofs.MessageTrips.{messages_round_trip_lem}
use Rattle.wire.proofs.laws.messages_round_trip.Goals as goal

pub returns : goal.returns
returns c = messages_round_trip_lem
