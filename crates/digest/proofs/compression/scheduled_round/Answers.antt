use Rattle.digest.proofs.Steps.{stands_more}
use Rattle.digest.proofs.compression.scheduled_round.Goals as goal

pub returns : goal.returns
returns c =
    λ s stands.
    stands_more c.args.block.now s c.args.t c.args.w.now c.args.v c.scheduled_word-word.result c.constant.result c.one_round.result
    c.requires c.told-w stands c.scheduled_word-word.ensures c.constant.ensures c.one_round.ensures
