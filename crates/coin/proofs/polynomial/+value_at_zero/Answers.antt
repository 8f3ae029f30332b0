use Rattle.std.proofs.Common.{◌≡◌, ◌-◌, ◌<◌, ◌≤◌, length, get_or, take, drop, sym, subst, arith, rules}
use Rattle.coin.specs.Shares.{Apart, nobody}
use Rattle.coin.specs.Interpolation.{reduce}
use Rattle.coin.specs.Pieces.{whole}
use Rattle.coin.specs.Reduced.{apart_reduced, next_mapped, all_mapped}
use Rattle.coin.proofs.polynomial.+value_at_zero.Goals as goal

pub loop-other-preserved : goal.loop-other-preserved
loop-other-preserved t c =
    let xs = c.args.points.now in
    next_mapped (reduce (get_or xs 0 nobody)) c.loop-other.rest (take (length xs - 1) (drop 1 xs)) c.loop-other.other-index c.loop-other.invariant
    c.reduced.result (omega arith) (omega arith) c.reduced.ensures

pub value_at_zero-slope-requires : goal.value_at_zero-slope-requires
value_at_zero-slope-requires t c =
    let xs = c.args.points.now in
    let first = get_or xs 0 nobody in
    let rest = take (length xs - 1) (drop 1 xs) in
    let some : 1 ≤ length xs = search rules in
    let apart = subst Apart (whole nobody xs some) c.requires in
    let done : c.loop-other.rest ≡ _ = all_mapped (reduce first) c.loop-other.rest rest c.loop-other.other-index c.loop-other.invariant (omega arith) in
    let shorter : length c.loop-other.rest < length xs = search rules in
    (search rules, subst Apart (sym done) (apart_reduced first rest apart.1))
