use Rattle.collect.proofs.Soundness.{sound_is_read_lem}
use Rattle.collect.proofs.laws.sound_is_read.Goals as goal

pub returns : goal.returns
returns c = sound_is_read_lem
