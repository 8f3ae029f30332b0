use Rattle.std.proofs.Common.{◌≡◌, ◌++◌, map, take, drop}
use Rattle.digest.specs.Hmac.{masked}
use Rattle.digest.proofs.authentication.masked_block.Given as goal

abbrev pub invariant-loop-byte : goal.invariant-loop-byte
invariant-loop-byte l = l.byte-items ≡ map (masked l.mask) (take l.byte-index l.fn.block) ++ drop l.byte-index l.fn.block
