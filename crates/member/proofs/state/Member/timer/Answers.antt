use Rattle.std.proofs.Common.{◌≡◌, ℕ, List, ◌++◌, length, take, sym, ap, ◌∙◌, rules}
use Rattle.std.proofs.lemmas.List.{take_at}
use Rattle.member.proofs.state.Member.timer.Goals as goal

-- a tag that was signed stands at the start of the room
at_start : (room tag rest : List ℕ) (n k : ℕ) → n ≡ k → length tag ≡ k → room ≡ tag ++ rest → take n room ≡ tag
at_start room tag rest n k e w is = ap (take n) is ∙ take_at tag rest n (w ∙ sym e)

pub returns : goal.returns
returns g c =
    let signed = c.in_ok-width.ensures in
    let tag = at_start _ _ _ _ _ signed.long (g.A.Attestor.laws.tag_width c.args.attestor.now c.timeout_words-words.result) signed.written in
    search rules
