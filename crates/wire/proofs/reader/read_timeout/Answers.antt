use Rattle.std.proofs.Common.{sym, ap, ◌∙◌}
use Rattle.std.specs.Option.{option_map}
use Rattle.wire.specs.Told.{message_told}
use Rattle.wire.proofs.Reading.{timeout_of, timeout_by}
use Rattle.wire.proofs.reader.read_timeout.Goals as goal

pub returns-in_err-certificate : goal.returns-in_err-certificate
returns-in_err-certificate c =
    let read = timeout_by c.args.form c.args.bytes.now _ _ _ _ _ c.in_ok-view.ensures c.in_ok-tag.ensures.cases (sym c.is_member.ensures.is ∙ c.if-not-is_member.false) in
    ap (option_map message_told) c.from_residual-in_err-certificate.ensures ∙ ap (option_map (timeout_of c.in_ok-view.view c.in_ok-view.signer c.in_ok-tag.tag.now)) c.in_err-certificate.ensures ∙ read

pub returns : goal.returns
returns c =
    let read = timeout_by c.args.form c.args.bytes.now _ _ _ _ _ c.in_ok-view.ensures c.in_ok-tag.ensures.cases (sym c.is_member.ensures.is ∙ c.if-not-is_member.false) in
    ap (option_map (timeout_of c.in_ok-view.view c.in_ok-view.signer c.in_ok-tag.tag.now)) c.in_ok-certificate.ensures ∙ read
