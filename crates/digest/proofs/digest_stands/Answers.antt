use Rattle.digest.proofs.Laws.{digest_laws}
use Rattle.digest.proofs.digest_stands.Goals as goal

pub returns : goal.returns
returns c = digest_laws
