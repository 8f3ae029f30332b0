use Rattle.std.proofs.Common.{arith}
use Rattle.blocks.proofs.Fronts.{head_unformed, head_refused, head_taken}
use Rattle.blocks.proofs.head.Head.read.Goals as goal

pub returns-in_err-kind : goal.returns-in_err-kind
returns-in_err-kind c =
    let k = head_unformed c.args.n c.args.bytes.now in
    grind (arith, k)

pub returns-then-proposer-eq0 : goal.returns-then-proposer-eq0
returns-then-proposer-eq0 c =
    let k = head_refused c.args.n c.args.bytes.now c.in_ok-kind.field-0 c.from_be_bytes-payload.result in
    grind (arith, k)

pub returns : goal.returns
returns c =
    let k = head_taken c.args.n c.args.bytes.now c.in_ok-kind.field-0 c.from_be_bytes-payload.result in
    grind (arith, k)
