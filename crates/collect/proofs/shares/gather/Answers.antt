use Rattle.std.proofs.Common.{arith}
use Rattle.std.proofs.lemmas.List.{length-map}
use Rattle.tally.specs.Walk.{kept_alike}
use Rattle.collect.specs.Items.{share_alike}
use Rattle.collect.specs.Build.{share_at}
use Rattle.collect.proofs.Gathering.{has_place, has_number, one_more, at_end}
use Rattle.collect.proofs.shares.gather.Goals as goal

pub share_at-requires : goal.share_at-requires
share_at-requires c = has_number c.loop-count.invariant.2 _ _ c.in-Some.ensures.steps.0

pub bounds-out-count : goal.bounds-out-count
bounds-out-count c =
    let many = length-map (kept_alike share_alike c.args.share.now c.args.places.now 0) share_at in
    let room = has_place c.loop-count.invariant.2 _ _ c.in-Some.ensures.steps.0 (omega (arith, many, c.requires.room)) in
    omega (arith, c.in-Some.ensures.steps.1)

pub loop-count-preserved : goal.loop-count-preserved
loop-count-preserved c =
    let walk = c.in-Some.ensures.steps in
    let many = length-map (kept_alike share_alike c.args.share.now c.args.places.now 0) share_at in
    let room = has_place c.loop-count.invariant.2 _ _ walk.0 (omega (arith, many, c.requires.room)) in
    (c.in-Some.ensures.goes.keeps, tt, one_more c.loop-count.invariant.2 _ _ _ walk.0 c.share_at.ensures room _ _ walk.1 walk.2)

pub returns : goal.returns
returns c = at_end c.loop-count.invariant.2 c.in-None.ensures.steps.0.0
