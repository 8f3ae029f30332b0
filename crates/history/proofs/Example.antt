-- Four members, of which the fourth is dishonest, and one chain: a regular block, two fallback blocks of the winner of view 0, and a regular
-- block of view 1. A block is its round. Each honest member makes the same moves.
use Rattle.std.proofs.Common.{ℕ, ◌-◌, ◌/◌, ◌%◌, ◌≤◌, List, [], ◌∷◌, refl, inr, arith}
use Rattle.safety.specs.Lists.{◌∈◌}
use Rattle.safety.specs.Runs.{Run}
use Rattle.safety.specs.Certificates.{Certified, Official, DirectlyCommitted}
use Rattle.safety.specs.Rules.{Votable}
use Rattle.safety.proofs.Line.{line, certified_in_line, official_in_line}
use Rattle.history.specs.States.{State}
use Rattle.history.specs.Moves.{
  sees,
  records,
  times_out,
  enters_fallback,
  votes_regular,
  votes_fallback,
  exits,
  History,
  start,
  ◌then◌,
}
use Rattle.history.specs.Theorems.{SomeRunMoves}

abbrev cast : List ℕ
cast = 1 ∷ 2 ∷ 3 ∷ 4 ∷ []

abbrev run : Run ℕ
run = line (λ b. b / 4) (λ b. (b - 1) % 3) cast

cast_from : (b : ℕ) → 1 ≤ b → b ≤ 4 → b ∈ cast
cast_from b low high = grind arith

certified : (b : ℕ) → b ≤ 4 → Certified run b
certified b high = certified_in_line _ _ cast b (λ low. cast_from b low high)

official : (b : ℕ) → b ≤ 4 → Official run b
official b high = official_in_line _ _ cast b (λ low. cast_from b low high)

votable : (b : ℕ) → 1 ≤ b → b ≤ 4 → Votable run b
votable b low high = record {
  round_follows = omega arith;
  opens = λ o. record { official = official (b - 1) (omega arith); no_later_view = omega arith; fallback_is_past = λ f. omega arith };
  continues = λ o. record {
    certified = certified (b - 1) (omega arith);
    same_view = omega arith;
    same_proposer = refl;
    one_below = omega arith;
  };
}

moves : (s : State ℕ) × History run cast s
moves = (
  _,
  start
      then votes_regular 1 (record {
        votable = votable 1 (omega arith) (omega arith);
        regular = refl;
        in_steady = refl;
        this_view = refl;
        new_round = omega arith;
        lock = record { above_lock = omega arith; parent_seen = omega arith };
      })
      then times_out refl
      then enters_fallback (inr refl)
      then sees 1 (record { official = official 1 (omega arith); no_later_view = omega arith; fallback_is_past = λ f. omega arith })
      then votes_fallback 2 (record {
        votable = votable 2 (omega arith) (omega arith);
        is_fallback = omega arith;
        in_fallback = refl;
        this_view = refl;
        new_height = omega arith;
        opens = λ o. record { above_lock = omega arith; parent_seen = omega arith };
        continues = λ c. absurd (omega arith);
      })
      then records 2 (record { certified = certified 2 (omega arith); is_fallback = omega arith; this_view = refl; in_fallback = refl })
      then votes_fallback 3 (record {
        votable = votable 3 (omega arith) (omega arith);
        is_fallback = omega arith;
        in_fallback = refl;
        this_view = refl;
        new_height = omega arith;
        opens = λ o. absurd (omega arith);
        continues = λ c. record { new_round = omega arith; parent_recorded = omega arith };
      })
      then exits
      then sees 3 (record { official = official 3 (omega arith); no_later_view = omega arith; fallback_is_past = λ f. omega arith })
      then votes_regular 4 (record {
        votable = votable 4 (omega arith) (omega arith);
        regular = refl;
        in_steady = refl;
        this_view = refl;
        new_round = omega arith;
        lock = record { above_lock = omega arith; parent_seen = omega arith };
      }),
)

commits : DirectlyCommitted run 1
commits = record { last = 3; official = official 3 (omega arith); grandparent = refl; view_last = refl; view_between = refl }

pub some_run_moves_lem : SomeRunMoves
some_run_moves_lem = (
  run,
  record {
    few_faults = record { third = omega arith; few = omega arith };
    start = record { own_parent = refl; regular = refl; view_0 = refl; round_0 = refl };
    moves = λ m h. moves;
  },
  (1, commits),
  tt,
  refl,
  refl,
)
