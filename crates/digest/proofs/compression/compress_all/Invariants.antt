use Rattle.std.proofs.Common.{◌≡◌, fold, take}
use Rattle.digest.specs.Compression.{compression}
use Rattle.digest.proofs.compression.compress_all.Given as goal

abbrev pub invariant-loop-block : goal.invariant-loop-block
invariant-loop-block l = l.state ≡ fold compression l.initial.state (take l.block-index l.blocks)
