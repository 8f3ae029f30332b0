use Rattle.std.proofs.Common.{ap, ◌∙◌}
use Rattle.std.specs.Option.{option_map}
use Rattle.wire.specs.Messages.{proposal}
use Rattle.wire.specs.Told.{block_told, message_told}
use Rattle.wire.proofs.Reading.{proposal_by}
use Rattle.wire.proofs.reader.read_proposal.Goals as goal

pub returns-in_err-certificate : goal.returns-in_err-certificate
returns-in_err-certificate c =
    let read = proposal_by c.args.form c.args.bytes.now _ (block_told c.in_ok-block.block) c.in_ok-block.ensures.read c.in_ok-get.ensures.lookup.0.2 in
    ap (option_map message_told) c.from_residual-in_err-certificate.ensures ∙ ap (option_map (proposal (block_told c.in_ok-block.block))) c.in_err-certificate.ensures ∙ read

pub returns : goal.returns
returns c =
    let read = proposal_by c.args.form c.args.bytes.now _ (block_told c.in_ok-block.block) c.in_ok-block.ensures.read c.in_ok-get.ensures.lookup.0.2 in
    ap (option_map (proposal (block_told c.in_ok-block.block))) c.in_ok-certificate.ensures ∙ read
