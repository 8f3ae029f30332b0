-- A lawful run: four members, of which the fourth is dishonest, and one chain. Each view has a regular block and then the three fallback
-- blocks of its winner. A block is its round.
use Rattle.std.proofs.Common.{◌≡◌, ℕ, ◌+◌, ◌-◌, ◌/◌, ◌%◌, ◌<◌, ◌≤◌, List, [], ◌∷◌, refl, arith}
use Rattle.safety.specs.Lists.{◌∈◌, Before}
use Rattle.safety.specs.Runs.{Run}
use Rattle.safety.specs.Certificates.{Certified, Official, DirectlyCommitted}
use Rattle.safety.specs.Rules.{Votable, VotesInOrder}
use Rattle.safety.specs.Theorems.{SomeRunCommits}
use Rattle.safety.proofs.Line.{line, certified_in_line, official_in_line}

abbrev cast : List ℕ
cast = 1 ∷ 2 ∷ 3 ∷ 4 ∷ 5 ∷ 6 ∷ 7 ∷ []

abbrev run : Run ℕ
run = line (λ b. (b - 1) / 4) (λ b. (b - 1) % 4) cast

cast_from : (b : ℕ) → 1 ≤ b → b ≤ 7 → b ∈ cast
cast_from b low high = grind arith

cast_within : (b : ℕ) → b ∈ cast → (1 ≤ b) × (b ≤ 7)
cast_within b i = omega arith

cast_rises : (x y : ℕ) → Before cast x y → (1 ≤ x) × (x < y) × (y ≤ 7)
cast_rises x y o = grind arith

certified : (b : ℕ) → b ≤ 7 → Certified run b
certified b high = certified_in_line _ _ cast b (λ low. cast_from b low high)

official : (b : ℕ) → b ≤ 7 → Official run b
official b high = official_in_line _ _ cast b (λ low. cast_from b low high)

votable : (b : ℕ) → 1 ≤ b → b ≤ 7 → Votable run b
votable b low high = record {
  round_follows = omega arith;
  opens = λ o. record { official = official (b - 1) (omega arith); no_later_view = omega arith; fallback_is_past = λ f. omega arith };
  continues = λ o. record {
    certified = certified (b - 1) (omega arith);
    same_view = omega arith;
    same_proposer = refl;
    one_below = omega arith;
  };
}

in_order : (x y : ℕ) → 1 ≤ x → x < y → y ≤ 7 → VotesInOrder run x y
in_order x y low less high = record {
  views_never_fall = omega arith;
  no_regular_after_fallback = λ v f. omega arith;
  rounds_rise = λ a b. less;
  heights_rise = λ a b v p. omega arith;
  lock_kept = λ a b. omega arith;
  exit_lock_kept = λ a e b v. record {
    seen = x;
    certified = certified x (omega arith);
    fallback = omega arith;
    same_view = refl;
    same_proposer = refl;
    covers_parent = omega arith;
    lock_kept = omega arith;
  };
  exit_round_kept = λ a e b v. less;
}

commits : (b : ℕ) → b ≤ 5 → (b + 1) / 4 ≡ (b - 1) / 4 → 1 ≤ b → DirectlyCommitted run b
commits b high v low = record {
  last = b + 2;
  official = official (b + 2) (omega arith);
  grandparent = omega arith;
  view_last = omega arith;
  view_between = omega arith;
}

pub some_run_commits_lem : SomeRunCommits
some_run_commits_lem = (
  run,
  record {
    few_faults = record { third = omega arith; few = omega arith };
    start = record { own_parent = refl; regular = refl; view_0 = refl; round_0 = refl };
    rules = λ m h. record {
      votable = λ b i. let w = cast_within b i in votable b w.0 w.1;
      ordered = λ x y o. let w = cast_rises x y o in in_order x y w.0 w.1 w.2;
    };
  },
  (1, commits 1 (omega arith) refl (omega arith), refl),
  (5, commits 5 (omega arith) refl (omega arith), refl),
)
