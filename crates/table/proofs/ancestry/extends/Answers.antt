use Rattle.std.proofs.Common.{◌≡◌, rules, leb, eqb, Some, ap, ◌∙◌}
use Rattle.std.specs.Option.{option_eq}
use Rattle.std.proofs.lemmas.Iterator.Consumers.{YieldsList-from_first}
use Rattle.std.proofs.lemmas.Iterator.Search.{find_from_yields_List}
use borrow.Author.Tests.{tests}
use Rattle.table.specs.Ancestry.{extends, places_left, first_up, way_up}
use Rattle.table.proofs.Walks.{found_way, extends_found}
use Rattle.table.proofs.ancestry.extends.Goals as goal

pub returns : goal.returns
returns c =
    let found : c.find.result ≡ first_up c.args.table.now (λ i. leb i c.args.b) c.args.a =
    found_way c.args.table.now (λ i. leb i c.args.b) c.args.a
    (find_from_yields_List (λ i. leb i c.args.b) c.find.new.self _ c.find.result c.find.ensures.ran
    (YieldsList-from_first (λ x. x) places_left {s = c.of.result} (way_up c.args.table.now c.args.a) c.of.ensures) (λ x b q k. search (rules, tests))) in
    let same : option_eq eqb c.find.result (Some c.args.b) ≡ extends c.args.table.now c.args.a c.args.b =
    ap (λ o. option_eq eqb o (Some c.args.b)) found ∙ extends_found c.args.table.now c.args.a c.args.b in
    search rules
