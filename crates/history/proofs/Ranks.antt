-- The higher of two ranks.
use Rattle.std.proofs.Common.{◌≡◌, true, false, arith}
use Rattle.safety.specs.Ranks.{Rank, ◌≼◌}
use Rattle.safety.proofs.Ranks.{≼_refl}
use Rattle.history.specs.Effects.{ranks_below, higher}
use Rattle.std.proofs.lemmas.Bool.{cond_both}
use Rattle.std.proofs.lemmas.Bool.Decides.{nat_tests}

pub below_true : (a b : Rank) → ranks_below a b ≡ true → a ≼ b
below_true a b e = record {
  views = grind (arith, nat_tests);
  kinds = λ v. grind (arith, nat_tests);
  rounds = λ v k. grind (arith, nat_tests);
}

pub below_false : (a b : Rank) → ranks_below a b ≡ false → b ≼ a
below_false a b e = record {
  views = grind (arith, nat_tests);
  kinds = λ v. grind (arith, nat_tests);
  rounds = λ v k. grind (arith, nat_tests);
}

pub higher_first : (a b : Rank) → a ≼ higher a b
higher_first a b = cond_both (ranks_below a b) b a (λ m. a ≼ m) (below_true a b) (λ e. ≼_refl a)

pub higher_second : (a b : Rank) → b ≼ higher a b
higher_second a b = cond_both (ranks_below a b) b a (λ m. b ≼ m) (λ e. ≼_refl b) (below_false a b)
