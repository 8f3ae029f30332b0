-- The worked examples, computed from the definitions.
use Rattle.std.proofs.Common.{refl}
use Rattle.blocks.specs.Examples.{Examples}

pub examples : Examples
examples = record { leaders = refl; kind_first = refl; view_first = refl }
