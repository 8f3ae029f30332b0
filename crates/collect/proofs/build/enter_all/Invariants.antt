use Rattle.tally.specs.Alike.{still_alike}
use Rattle.tally.specs.Walk.{kept_alike}
use Rattle.collect.proofs.Entries.{Entering}
use Rattle.collect.proofs.build.enter_all.Given as goal

abbrev pub invariant-loop-place : goal.invariant-loop-place
invariant-loop-place g l =
    (goal.iterator-loop-place g).can_next l.place-iterator × (goal.iterator-loop-place g).is_finite l.place-iterator
    × Entering (g.T.Entered.tail l.width) l.initial.out l.at (kept_alike g.T.Item.alike l.item l.places 0) l.out l.end (still_alike g.T.Item.alike l.place-iterator)
