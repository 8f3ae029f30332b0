use Rattle.std.proofs.Common.{length, Some, None, sym, ap, ◌∙◌, rules, arith}
use Rattle.std.specs.Option.{option_copied}
use Rattle.tally.specs.Alike.{still_alike}
use Rattle.tally.proofs.Walks.{kept_more, kept_all}
use Rattle.tally.proofs.places.AlikeIterator.next.Goals as goal

pub returns-in-Some : goal.returns-in-Some
returns-in-Some g c =
    let self = c.loop-place.self in
    let like = g.T.Item.alike in
    let met = kept_more like self.item.now self.places.now c.loop-place.place c.index-self-place.result (Some c.in-Some.kept.now) (omega arith) (sym c.if_alike.ensures ∙ ap option_copied c.in-Some.is) in
    let steps = ap (still_alike like) (sym c.loop-place.invariant.0) ∙ (c.loop-place.invariant.2 ∙ met) in
    record { steps = steps; goes = let shorter = ap length steps in search rules }

pub loop-place-preserved : goal.loop-place-preserved
loop-place-preserved g c =
    let self = c.loop-place.self in
    let past = kept_more g.T.Item.alike self.item.now self.places.now c.loop-place.place c.index-self-place.result None (omega arith) (sym c.if_alike.ensures ∙ ap option_copied c.in_default.is) in
    (c.loop-place.invariant.0, c.loop-place.invariant.1, c.loop-place.invariant.2 ∙ past)

pub returns : goal.returns
returns g c =
    let self = c.loop-place.self in
    let past = c.loop-place.invariant.2 ∙ kept_all g.T.Item.alike self.item.now self.places.now _ (omega arith) in
    record { steps = (ap (still_alike g.T.Item.alike) (sym c.loop-place.invariant.0) ∙ past, past); goes = search rules }
