use Rattle.std.proofs.Common.{◌≡◌, ℕ, ◌+◌, ◌≤◌, List, ◌++◌, length, take, sym, ap, ◌∙◌, subst, arith}
use Rattle.std.proofs.lemmas.Bool.Decides.{nat_tests}
use Rattle.blocks.specs.Layout.{pasted}
use Rattle.collect.specs.Items.{value_bytes, tail_of}
use Rattle.collect.proofs.Pasting.{Left, left_all, left_more, left_last, left_none, pasted_whole}
use Rattle.collect.proofs.build.AnyEntered.put_tail.Goals as goal
use Rattle.collect.proofs.build.AnyEntered.put_tail.Goals.{in-Some, in_default}

pub returns-clause-bytes : goal.returns-clause-bytes
returns-clause-bytes g c =
    let old = c.args.out.now in
    let at = c.args.at in
    let value = value_bytes (g.T.Tagged.value c.args.self.now) in
    let tag = c.start_of.result.now in
    let tail = tail_of g.T.Tagged.value g.T.Tagged.tag c.args.width c.args.self.now in
    let is : value ++ tag ≡ tail = ap (λ (t : List ℕ). value ++ t) (c.start_of.ensures.start ∙ ap (take c.args.width) c.tag.ensures) in
    let room : at + length tail ≤ length old = let long = c.tail_length.ensures.value in grind (arith, nat_tests, long) in
    let begun = left_all old (value ++ tag) at (subst (λ (w : List ℕ). at + length w ≤ length old) (sym is) room) in
    let left : Left old at (value ++ tag) c.match-value.out c.match-value.end tag =
    elim
    c.match-value.branch [
      | in-Some w ↦
          let with_value = subst (λ (ys : List ℕ). Left old at (value ++ tag) old at (ys ++ tag)) (ap value_bytes (sym c.value.ensures ∙ w.in-Some.is) ∙ sym w.to_be_bytes.ensures) begun in
          left_more w.to_be_bytes.result tag with_value (w.out-is ∙ w.put-end.ensures.bytes) (w.end-is ∙ w.put-end.ensures.end)
      | in_default w ↦
          let with_none = subst (λ (ys : List ℕ). Left old at (value ++ tag) old at (ys ++ tag)) (ap value_bytes (sym c.value.ensures ∙ w.in_default.is)) begun in
          subst (λ (o : List ℕ). Left old at (value ++ tag) o c.match-value.end tag) (sym w.out-is) (subst (λ (e : ℕ). Left old at (value ++ tag) old e tag) (sym w.end-is) with_none)
    ] in
    let done = (left_none (left_last tag left c.put.ensures.bytes c.put.ensures.end)).0 in
    done ∙ (ap (pasted old at) is ∙ pasted_whole old tail at room)
