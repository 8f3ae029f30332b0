use Rattle.std.proofs.Common.{◌≡◌, ℕ, ◌<◌, ◌≤◌, List, length, take, Some, None, Option, MatchOption, sym, ap, ◌∙◌}
use Rattle.std.specs.Option.{unwrap_or}
use Rattle.std.proofs.lemmas.Bool.{cond-true, cond-false, le-leb, lt-leb}
use Rattle.blocks.specs.declared.rank.Rank.{Rank}
use Rattle.blocks.specs.Statements.{rank_of, statement_of, genesis}
use Rattle.wire.specs.Higher.{certificate_rank}
use Rattle.wire.proofs.higher.certificate_rank.Goals as goal

or_genesis : (bs : List ℕ) (o : Option Rank) → MatchOption o (length bs < 43) (λ r. (43 ≤ length bs) × (r ≡ rank_of (statement_of (take 43 bs)))) → unwrap_or o (rank_of genesis) ≡ certificate_rank bs
or_genesis bs None short = sym (cond-false _ _ _ (lt-leb 43 (length bs) short))
or_genesis bs (Some r) is = is.1 ∙ sym (cond-true _ _ _ (le-leb 43 (length bs) is.0))

pub returns : goal.returns
returns c =
    c.unwrap_or.ensures ∙ ap (unwrap_or c.rank_in.result) (c.rank.ensures ∙ ap rank_of c.genesis.ensures) ∙ or_genesis c.args.bytes.now c.rank_in.result c.rank_in.ensures
