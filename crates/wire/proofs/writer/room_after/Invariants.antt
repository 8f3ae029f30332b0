use Rattle.std.proofs.Common.{◌≡◌, ◌+◌, length, take}
use Rattle.wire.proofs.Fields.{joined}
use Rattle.wire.proofs.writer.room_after.Given as goal

abbrev pub invariant-loop-field : goal.invariant-loop-field
invariant-loop-field l = length (joined (take l.field-index l.fields)) + l.room ≡ l.bytes
