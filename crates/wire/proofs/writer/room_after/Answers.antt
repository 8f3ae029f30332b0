use Rattle.std.proofs.Common.{arith}
use Rattle.wire.proofs.Fields.{joined_room}
use Rattle.wire.proofs.writer.room_after.Goals as goal

pub returns-in_err-room : goal.returns-in_err-room
returns-in_err-room c =
    let all = joined_room c.args.fields.now c.loop-field.field-index c.loop-field-test.true in
    rw c.from_residual.ensures (omega (arith, all, c.in_err-room.ensures, c.loop-field.invariant))
