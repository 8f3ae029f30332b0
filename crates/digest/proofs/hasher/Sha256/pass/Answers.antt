use Rattle.std.proofs.Common.{arith}
use Rattle.digest.proofs.Absorbing.{absorbs_blocks}
use Rattle.digest.proofs.hasher.Sha256.pass.Goals as goal

pub returns : goal.returns
returns c = record {
  absorbs =
      absorbs_blocks c.args.self.now c.args.blocks.now c.as_flattened.result.now c.compress_all.new.state c.requires c.told-blocks
      c.as_flattened.ensures.value c.as_flattened.ensures.len c.compress_all.ensures;
  whole = omega arith;
}
