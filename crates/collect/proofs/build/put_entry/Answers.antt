use Rattle.std.proofs.Common.{ℕ, [], ◌∷◌, ap, ◌∙◌, arith}
use Rattle.blocks.specs.Layout.{pasted}
use Rattle.collect.proofs.Pasting.{left_all, left_more, left_last, left_none}
use Rattle.collect.proofs.build.put_entry.Goals as goal

pub returns : goal.returns
returns g c =
    let number = c.number_of.result in
    let tail = g.T.Entered.tail c.args.width c.args.kept.now in
    let l0 = left_all c.args.out.now (number ∷ tail) c.args.at (omega (arith, c.requires.room)) in
    let l1 = left_more (number ∷ []) tail l0 c.put-end.ensures.bytes c.put-end.ensures.end in
    let done = left_none (left_last tail l1 c.put_tail.ensures.bytes c.put_tail.ensures.end) in
    record { bytes = done.0 ∙ ap (λ (n : ℕ). pasted c.args.out.now c.args.at (n ∷ tail)) c.number_of.ensures; end = omega (arith, done.1) }
