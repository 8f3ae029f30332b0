use Rattle.std.proofs.Common.{take}
use Rattle.blocks.proofs.Overlays.{Wrote}
use Rattle.wire.proofs.Fields.{joined}
use Rattle.wire.proofs.writer.write_fields.Given as goal

abbrev pub invariant-loop-field : goal.invariant-loop-field
invariant-loop-field l = Wrote l.initial.out (joined (take l.field-index l.fields)) l.out l.at
