use Rattle.blocks.proofs.RoundTrips.{statements_round_trip, heads_round_trip}
use Rattle.blocks.proofs.round_trips.Goals as goal

pub returns : goal.returns
returns c = record { statements = statements_round_trip; heads = heads_round_trip }
