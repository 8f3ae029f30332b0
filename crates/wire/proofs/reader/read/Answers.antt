use Rattle.wire.proofs.Reading.{message_by, no_message}
use Rattle.wire.proofs.reader.read.Goals as goal

pub returns-in_err-kind : goal.returns-in_err-kind
returns-in_err-kind c = no_message c.args.form c.args.message.now _ c.in-len1-up.len_at_least c.in_err-kind.ensures c.from_residual.ensures.0

pub returns : goal.returns
returns c = message_by c.args.form c.args.message.now _ c.read_kind.result _ _ c.in-len1-up.len_at_least c.in_ok-kind.ensures c.ok_or.ensures.value c.read_kind.ensures
