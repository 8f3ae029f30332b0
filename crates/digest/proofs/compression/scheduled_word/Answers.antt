use Rattle.std.proofs.Common.{rules}
use Rattle.digest.proofs.Steps.{read_word}
use Rattle.digest.proofs.compression.scheduled_word.Goals as goal

pub returns-then-t-lt16 : goal.returns-then-t-lt16
returns-then-t-lt16 c =
    let word = read_word c.args.block.now c.as_chunks.result.0.now c.args.t c.from_be_bytes.result c.told-block c.as_chunks.ensures.front
    c.if-t-lt16.true c.from_be_bytes.ensures in
    search (rules, word)
