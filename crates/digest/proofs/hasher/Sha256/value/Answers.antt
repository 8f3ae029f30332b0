use Rattle.std.proofs.Common.{ap, ◌∙◌}
use Rattle.std.specs.List.{flat_map}
use Rattle.digest.specs.Bytes.{bytes32}
use Rattle.digest.specs.Digest.{digest}
use Rattle.digest.proofs.hasher.Sha256.value.Goals as goal

pub returns : goal.returns
unfolding digest
returns c = λ bytes had. c.joined_bytes.ensures ∙ ap (flat_map bytes32) had.blocks
