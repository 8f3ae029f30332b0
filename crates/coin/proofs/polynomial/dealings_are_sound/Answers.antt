use Rattle.coin.proofs.Evaluation.{dealings_are_sound_lem}
use Rattle.coin.proofs.polynomial.dealings_are_sound.Goals as goal

pub returns : goal.returns
returns c = dealings_are_sound_lem
