use Rattle.std.proofs.Common.{rules}
use Rattle.table.proofs.Walks.{way_last, way_on}
use Rattle.table.proofs.ancestry.AncestorsIterator.next.Goals.{then-at-eq0, else-at-eq0}
use Rattle.table.proofs.ancestry.AncestorsIterator.next.Goals as goal

pub returns-clause-steps : goal.returns-clause-steps
returns-clause-steps c = elim c.if-at-eq0.branch [
  | then-at-eq0 w ↦ way_last c.args.self.now.table.now c.in_ok-at.at (c.in_ok-at.was {u = tt}) w.if-at-eq0.true w.self-is
  | else-at-eq0 w ↦ way_on c.args.self.now.table.now c.in_ok-at.at w.parent_of.result (c.in_ok-at.was {u = tt}) w.if-at-eq0.false w.parent_of.ensures.place w.self-is
]

pub returns-clause-goes : goal.returns-clause-goes
returns-clause-goes c = let s = returns-clause-steps c in search rules
