use Rattle.std.proofs.Common.{◌+◌, length, ap, ◌∙◌, rules, arith}
use Rattle.std.proofs.lemmas.Iterator.{YieldsList-from_map}
use Rattle.std.proofs.lemmas.Iterator.Consumers.{YieldsList-from_first, sum_by_from_yields_List}
use Rattle.std.proofs.lemmas.Iterator.Adapters.{at_most_from_yields_List, fits_from_length}
use borrow.Author.Tests.{tests}
use Rattle.tally.specs.Alike.{place_and_item, still_alike}
use Rattle.tally.specs.Walk.{kept_alike}
use Rattle.collect.proofs.Entries.{length_bytes}
use Rattle.collect.proofs.build.entries_length.Goals as goal

pub sum-requires-clause-fits : goal.sum-requires-clause-fits
sum-requires-clause-fits g c =
    let like = g.T.Item.alike in
    let walk = ap (still_alike like) c.map.ensures.source ∙ c.kept_alike.ensures.walk in
    fits_from_length _ _ 255 _ (at_most_from_yields_List (YieldsList-from_first place_and_item (still_alike like) _ walk) (omega (arith, ap length c.kept_alike.ensures.walk))) c.map.ensures.closure (omega arith) (λ x r q k. search (rules, tests))

pub returns : goal.returns
returns g c =
    let like = g.T.Item.alike in
    let tail = g.T.Entered.tail c.args.width in
    let all = kept_alike like c.args.item.now c.args.places.now 0 in
    let walk = ap (still_alike like) c.map.ensures.source ∙ c.kept_alike.ensures.walk in
    let total = sum_by_from_yields_List (λ met. 1 + length (tail met.1)) all c.map.result c.sum.result c.sum.ensures.ran
    (YieldsList-from_map _ _ (YieldsList-from_first place_and_item (still_alike like) all walk) c.map.ensures.closure (λ x r q k. search (rules, tests))) in
    let long = length_bytes tail all in
    omega arith
