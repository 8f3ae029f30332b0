use Rattle.std.proofs.Common.{replicate}
use Rattle.attest.specs.PairKeys.{key_room}
use Rattle.attest.proofs.Filled.{filled}
use Rattle.attest.proofs.pair_keys.PairKeys.row.Goals as goal

pub returns : goal.returns
returns c = filled (replicate 32 0) key_room c.args.keys.now c.copy_from_slice.new.self c.copy_from_slice.ensures.after
