use Rattle.attest.specs.PairLaws.{accepted_by_receivers}
use Rattle.attest.proofs.signings.receivers_accept.Goals as goal

pub returns : goal.returns
returns c = accepted_by_receivers
