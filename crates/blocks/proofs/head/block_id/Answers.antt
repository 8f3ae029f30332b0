use Rattle.std.proofs.Common.{◌++◌, ap, ◌∙◌}
use Rattle.digest.specs.Digest.{digest}
use Rattle.blocks.proofs.head.block_id.Goals as goal

pub returns : goal.returns
returns c =
    c.finish.ensures _ (c.update-2.ensures.next _ (c.update.ensures.first c.new-hasher.ensures))
    ∙ ap (λ head. digest (head ++ c.args.payload.now)) c.bytes.ensures
