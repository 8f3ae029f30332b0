use Rattle.std.proofs.Common.{◌≡◌, ◌∷◌, drop, get_or, sym, ap, ◌∙◌, arith}
use Rattle.std.proofs.lemmas.List.{get_or-drop, drop-drop}
use Rattle.blocks.specs.Statements.{read_statement}
use Rattle.wire.proofs.parts.read_said.Goals as goal

pub returns : goal.returns
returns c =
    let bs = c.args.bytes.now in
    let cut = c.in_ok-said.ensures.cases in
    let behind : c.in_ok-byte.byte.now ∷ c.in_ok-byte.rest.now ≡ drop 43 bs = sym c.in_ok-byte.ensures.cases.0 ∙ cut.2 in
    record {
      statement = sym (c.in_ok-read.ensures ∙ ap (read_statement c.args.n) cut.1);
      next = ap (λ q. get_or q 0 0) behind ∙ get_or-drop 43 bs 0 0;
      past = ap (drop 1) behind ∙ drop-drop 1 43 bs;
      long = omega (arith, cut.0, cut.4, c.in_ok-byte.ensures.cases.1);
    }
