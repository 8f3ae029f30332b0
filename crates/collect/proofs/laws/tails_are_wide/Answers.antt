use Rattle.collect.proofs.Soundness.{tails}
use Rattle.collect.proofs.laws.tails_are_wide.Goals as goal

pub returns : goal.returns
returns c = tails
