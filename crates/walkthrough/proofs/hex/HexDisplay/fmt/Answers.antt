use Rattle.std.proofs.Common.{refl, ap, arith}
use Rattle.std.proofs.lemmas.List.{take_all}
use Rattle.std.proofs.Output.{writes_in_calls_nil, has_written_append, has_written_of_eq}
use Rattle.walkthrough.specs.Hex.{hex_text}
use Rattle.walkthrough.proofs.Hexing.{hex_written}
use Rattle.walkthrough.proofs.hex.HexDisplay.fmt.Goals as goal

pub loop-byte-init : goal.loop-byte-init
loop-byte-init g c plain = record { wrote = writes_in_calls_nil _ _; plain = plain }

pub loop-byte-preserved : goal.loop-byte-preserved
loop-byte-preserved g c plain =
    let took = g.W.Write.write_str_gives in
    let before = c.loop-byte.invariant plain in
    let byte = rw (c.laid_out.ensures, c.in_radix.ensures) at c.in_ok-write.ensures.writes in
    has_written_of_eq took _ _ _ _ (hex_written _ _ c.loop-byte-test.true (omega arith)) (has_written_append took _ _ _ _ _ before (byte before.plain refl))

pub returns-clause-writes : goal.returns-clause-writes
returns-clause-writes g c plain e =
    has_written_of_eq g.W.Write.write_str_gives _ _ _ _ (ap hex_text (take_all _ _ c.loop-byte-test.false)) (c.loop-byte.invariant plain)
