use Rattle.std.proofs.Common.{◌≡◌, take, rules, ◌∙◌}
use Rattle.std.specs.Str.{bytes_eq}
use Rattle.std.proofs.lemmas.Iterator.{YieldsList-from_slice}
use Rattle.std.proofs.lemmas.Iterator.Search.{position_from_yields_List}
use borrow.Author.Tests.{tests}
use Rattle.table.specs.declared.held.Held.{Held}
use Rattle.table.specs.Places.{lookup}
use Rattle.table.proofs.Lookups.{held_lookup}
use Rattle.table.proofs.places.find.Goals as goal

pub returns : goal.returns
returns c =
    let found : c.position.result ≡ lookup c.args.table.now c.args.held c.args.id.now =
    position_from_yields_List (λ (b : Held). bytes_eq b.id c.args.id.now) _ _ c.position.result c.position.ensures.ran
    (YieldsList-from_slice (take c.min.result c.args.table.now) c.iter.ensures.rest) (λ x b q k. search (rules, tests))
    ∙ held_lookup c.args.table.now c.args.held c.min.result c.args.id.now c.min.ensures in
    search rules
