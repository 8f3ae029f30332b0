use Rattle.collect.proofs.Entries.{has_number, one_entered}
use Rattle.collect.proofs.build.enter_all.Goals as goal

pub put_entry-end-requires-clause-number : goal.put_entry-end-requires-clause-number
put_entry-end-requires-clause-number g c = has_number (g.T.Entered.tail c.args.width) c.loop-place.invariant.2 _ _ _ c.in-Some.ensures.steps

pub loop-place-preserved : goal.loop-place-preserved
loop-place-preserved g c =
    (tt, tt, one_entered (g.T.Entered.tail c.args.width) c.loop-place.invariant.2 _ _ _ c.in-Some.ensures.steps c.put_entry-end.ensures.bytes c.put_entry-end.ensures.end)
