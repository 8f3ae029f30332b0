use Rattle.collect.proofs.Soundness.{same_shares}
use Rattle.collect.proofs.laws.shares_are_the_same.Goals as goal

pub returns : goal.returns
returns c = same_shares c.tallies_are_lawful.ensures.walks_all
