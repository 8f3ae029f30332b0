use Rattle.std.proofs.Common.{rules}
use Rattle.digest.specs.Hmac.{authentication}
use Rattle.digest.proofs.authentication.hmac.Goals as goal

pub returns : goal.returns
unfolding authentication
returns c = search rules
