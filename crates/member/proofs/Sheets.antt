-- How long a rank is in the text sheet.
use Rattle.std.proofs.Common.{◌^◌, ◌<◌, ◌≤◌, length, arith}
use Rattle.std.proofs.lemmas.Fmt.{length-decimal-le}
use Rattle.std.proofs.lemmas.List.{length-append}
use Rattle.blocks.specs.declared.rank.Kind.{Kind}
use Rattle.blocks.specs.declared.rank.Kind.TheVariants.{Regular, Fallback}
use Rattle.blocks.specs.declared.rank.Rank.{Rank}
use Rattle.blocks.specs.Ranks.{kind_number}
use Rattle.member.specs.Sheet.{rank_text}

kind_digit : (k : Kind) → kind_number k < 10
kind_digit Regular = omega arith
kind_digit Fallback = omega arith

pub rank_short : (r : Rank) → r.view.0 < 2 ^ 32 → r.round.0 < 2 ^ 32 → length (rank_text r) ≤ 23
unfolding rank_text
rank_short r view round =
    let v = length-decimal-le 10 r.view.0 (omega arith) (omega arith) (omega arith) in
    let k = length-decimal-le 1 (kind_number r.kind) (omega arith) (kind_digit r.kind) (omega (arith, kind_digit r.kind)) in
    let n = length-decimal-le 10 r.round.0 (omega arith) (omega arith) (omega arith) in
    simp length-append (omega arith)
