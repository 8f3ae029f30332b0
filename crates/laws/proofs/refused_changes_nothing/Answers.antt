use Rattle.laws.proofs.Laws.{refused_changes_nothing_lem}
use Rattle.laws.proofs.refused_changes_nothing.Goals as goal

pub returns : goal.returns
returns g c = refused_changes_nothing_lem g.A.Attestor g.C.Coin
