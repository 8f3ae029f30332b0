use Rattle.std.proofs.Common.{◌≤◌, length, sym, ◌∙◌, arith}
use Rattle.std.proofs.lemmas.Bool.Decides.{nat_tests}
use Rattle.collect.specs.Build.{certificate_of}
use Rattle.collect.proofs.Certifying.{certificate_long, head_written, written_whole}
use Rattle.collect.proofs.Pasting.{rest_pasted}
use Rattle.collect.proofs.build.write_certificate.Goals as goal

pub returns-clause-bytes : goal.returns-clause-bytes
returns-clause-bytes c =
    let whole = certificate_of c.args.width c.args.vote.now c.args.places.now in
    let long = certificate_long c.args.width c.args.vote.now c.args.places.now _ c.bytes-statement.ensures _ c.entries_length-bytes.ensures in
    let room : length whole ≤ length c.args.out.now = grind (arith, nat_tests, long) in
    let left = head_written c.args.width c.args.vote.now c.args.places.now _ c.bytes-statement.ensures _ _ _ _ _ _ c.count_alike.ensures.count room c.put-at.ensures.bytes c.put-at.ensures.end c.put-at-2.ensures.bytes c.put-at-2.ensures.end in
    let done = rest_pasted _ _ _ _ _ _ _ left c.enter_all.ensures.bytes c.enter_all.ensures.end in
    done.1 ∙ sym (written_whole c.args.places.now c.args.out.now whole (omega arith) room)
