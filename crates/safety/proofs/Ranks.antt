-- The order of ranks.
use Rattle.std.proofs.Common.{◌<◌, ◌⊎◌, arith}
use Rattle.safety.specs.Ranks.{Rank, ◌≼◌}

pub ≼_refl : (a : Rank) → a ≼ a
≼_refl a = omega arith

pub ≼_trans : {a b c : Rank} → a ≼ b → b ≼ c → a ≼ c
≼_trans {a} {b} {c} p q = record {
  views = omega arith;
  kinds = λ v. omega arith;
  rounds = λ v k. omega arith;
}

-- of a rank that is no higher, but of a higher kind, the view is lower
pub earlier_view : {a b : Rank} → a ≼ b → b.kind < a.kind → a.view < b.view
earlier_view {a} {b} p k = grind arith

pub ≼-total : (a b : Rank) → (a ≼ b) ⊎ (b ≼ a)
≼-total a b = grind arith
