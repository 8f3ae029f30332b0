use Rattle.std.proofs.Common.{◌≡◌, reverse, ◌∙◌, rules}
use Rattle.std.specs.List.{fold}
use Rattle.coin.proofs.Evaluation.{step, horner}
use Rattle.coin.proofs.polynomial.value_at.Goals as goal

pub returns : goal.returns
returns c =
    let folded : c.fold.result ≡ fold (step c.args.x) 0 (reverse c.args.coefficients.now) = search rules in
    folded ∙ horner c.args.x c.args.coefficients.now
