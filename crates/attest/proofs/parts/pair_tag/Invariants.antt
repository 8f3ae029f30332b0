use Rattle.std.proofs.Common.{◌≡◌, ◌*◌, ◌++◌, take, drop}
use Rattle.attest.specs.Parts.{part_bytes, pair_tag}
use Rattle.attest.proofs.parts.pair_tag.Given as goal

abbrev pub invariant-loop-i : goal.invariant-loop-i
invariant-loop-i l = l.out ≡ pair_tag (take l.i l.keys) l.words ++ drop (part_bytes * l.i) l.initial.out
