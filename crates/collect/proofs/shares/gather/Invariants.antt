use Rattle.std.specs.Iterator.Adapters.{enumerate_source, enumerate_count}
use Rattle.tally.specs.Alike.{still_alike}
use Rattle.tally.specs.Walk.{kept_alike}
use Rattle.collect.specs.Items.{share_alike}
use Rattle.collect.proofs.Gathering.{Written}
use Rattle.collect.proofs.shares.gather.Given as goal

abbrev pub invariant-loop-count : goal.invariant-loop-count
invariant-loop-count l =
    goal.iterator-loop-count.can_next l.count-iterator × goal.iterator-loop-count.is_finite l.count-iterator
    × Written l.initial.out l.out (enumerate_count l.count-iterator) (kept_alike share_alike l.share l.places 0) (still_alike share_alike (enumerate_source l.count-iterator))
