use Rattle.std.proofs.Common.{arith}
use Rattle.blocks.proofs.Overlays.{wrote_more, wrote_same}
use Rattle.wire.proofs.Fields.{joined_more, joined_room}
use Rattle.wire.proofs.writer.write_fields.Goals as goal

pub loop-field-preserved : goal.loop-field-preserved
loop-field-preserved c =
    let all = joined_room c.args.fields.now c.loop-field.field-index c.loop-field-test.true in
    let room = rw c.in_ok-ok_or.ensures.ok_part at c.room_after.ensures in
    let w = wrote_more _ c.loop-field.invariant (omega (arith, all, room)) c.put-at.ensures.bytes c.put-at.ensures.end in
    wrote_same (joined_more c.args.fields.now c.loop-field.field-index c.loop-field-test.true) w
