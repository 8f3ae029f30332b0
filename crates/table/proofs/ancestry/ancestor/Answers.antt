use Rattle.std.proofs.Common.{◌≡◌, rules, eqb}
use Rattle.std.proofs.lemmas.Iterator.Consumers.{YieldsList-from_first}
use Rattle.std.proofs.lemmas.Iterator.Search.{find_from_yields_List}
use borrow.Author.Tests.{tests}
use Rattle.table.specs.Ancestry.{ancestor, places_left, round_at, way_up}
use Rattle.table.proofs.Walks.{found_way}
use Rattle.table.proofs.ancestry.ancestor.Goals as goal

pub returns : goal.returns
returns c =
    let found : c.find.result ≡ ancestor c.args.table.now c.args.a c.args.round.0 =
    found_way c.args.table.now (λ i. eqb (round_at c.args.table.now i) c.args.round.0) c.args.a
    (find_from_yields_List (λ i. eqb (round_at c.args.table.now i) c.args.round.0) c.find.new.self _ c.find.result c.find.ensures.ran
    (YieldsList-from_first (λ x. x) places_left {s = c.of.result} (way_up c.args.table.now c.args.a) c.of.ensures) (λ x b q k. search (rules, tests))) in
    search rules
