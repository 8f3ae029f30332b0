use Rattle.std.proofs.Common.{ℕ, arith}
use Rattle.std.proofs.lemmas.List.{drop-replicate}
use Rattle.digest.proofs.authentication.filled_block.Goals as goal

pub returns : goal.returns
returns c = grind (arith, drop-replicate {X = ℕ})
