use Rattle.std.proofs.Common.{◌≡◌, length}
use Rattle.tally.specs.Alike.{still_alike}
use Rattle.tally.specs.Walk.{kept_alike}
use Rattle.tally.proofs.places.AlikeIterator.next.Given as goal

abbrev pub invariant-loop-place : goal.invariant-loop-place
invariant-loop-place g l =
    (l.self ≡ l.initial.self) × (l.place-end ≡ length l.self.places.now) × (still_alike g.T.Item.alike l.self ≡ kept_alike g.T.Item.alike l.self.item.now l.self.places.now l.place)
