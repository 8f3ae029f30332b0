use Rattle.blocks.proofs.Ordered.{ordered}
use Rattle.blocks.proofs.ranks_ordered.Goals as goal

pub returns : goal.returns
returns c = ordered
