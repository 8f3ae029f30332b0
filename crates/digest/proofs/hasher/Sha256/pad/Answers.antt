use Rattle.std.proofs.Common.{arith}
use Rattle.digest.proofs.Padding.{one_and_zeros, absorbed_padded}
use Rattle.digest.proofs.hasher.Sha256.pad.Goals as goal

pub returns : goal.returns
returns c =
    absorbed_padded c.args.self.now c.update.new.self c.update-2.new.self _ c.length_field.result (one_and_zeros _ _ (omega arith) (omega arith))
    c.length_field.ensures c.update.ensures c.update-2.ensures
