use Rattle.std.proofs.Common.{◌*◌}
use Rattle.digest.specs.Compression.{start}
use Rattle.digest.specs.Progress.{Stands}
use Rattle.digest.proofs.compression.compress.Given as goal

abbrev pub invariant-loop-eight : goal.invariant-loop-eight
invariant-loop-eight l = Stands l.block (start l.state) (8 * l.eight) l.w l.v
