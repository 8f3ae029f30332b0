use Rattle.wire.proofs.CertificateTrips.{certificate_stands, genesis_certified}
use Rattle.wire.proofs.laws.certificates_stand.Goals as goal

pub returns : goal.returns
returns c = record { stand = certificate_stands; genesis = genesis_certified }
