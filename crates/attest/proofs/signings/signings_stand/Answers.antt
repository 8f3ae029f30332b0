use Rattle.attest.proofs.Kept.{attested}
use Rattle.attest.proofs.signings.signings_stand.Goals as goal

pub returns : goal.returns
returns g c = attested _
