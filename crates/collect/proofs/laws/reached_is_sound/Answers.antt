use Rattle.collect.proofs.Soundness.{reached_is_sound_lem}
use Rattle.collect.proofs.laws.reached_is_sound.Goals as goal

pub returns : goal.returns
returns g c = reached_is_sound_lem g.T.Item.above g.T.Item.alike c.tallies_are_lawful.ensures.reached_by_that_many
