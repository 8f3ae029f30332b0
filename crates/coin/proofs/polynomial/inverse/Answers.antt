use Rattle.std.proofs.Common.{sym, subst}
use Rattle.coin.specs.Interpolation.{Inverse}
use Rattle.coin.specs.Inverses.{entry}
use Rattle.coin.proofs.polynomial.inverse.Goals as goal

pub returns : goal.returns
returns c = subst (Inverse c.args.a) (sym c.table_entry.ensures) (entry c.args.a c.requires.0 c.requires.1)
