use Rattle.std.proofs.Common.{set, Some, arith}
use Rattle.std.proofs.lemmas.List.{length-set}
use Rattle.tally.specs.Walk.{kept_alike, weight_of}
use Rattle.tally.proofs.Counts.{counted, weighed_put, counted_at_most}
use Rattle.tally.proofs.places.count_with.Goals as goal

pub overflow_add-result : goal.overflow_add-result
overflow_add-result g c =
    let put = weighed_put g.met.T.Item.likeness weight_of c.args.places.now c.args.place c.args.item.now c.requires.there c.requires.taken in
    let count = counted (kept_alike g.T.Item.alike c.args.item.now c.args.places.now 0) in
    let most = counted_at_most g.T.Item.alike c.args.item.now (set c.args.places.now c.args.place (Some c.args.item.now)) in
    let long = length-set c.args.places.now c.args.place (Some c.args.item.now) in
    omega arith

pub returns : goal.returns
returns g c =
    let put = weighed_put g.met.T.Item.likeness weight_of c.args.places.now c.args.place c.args.item.now c.requires.there c.requires.taken in
    let count = counted (kept_alike g.T.Item.alike c.args.item.now c.args.places.now 0) in
    omega arith
