use Rattle.std.proofs.Common.{refl}
use Rattle.blocks.proofs.Examples.{examples}
use Rattle.collect.specs.declared.items.KeptTimeout.{KeptTimeout}
use Rattle.tally.specs.ByKey.{by_number}
use Rattle.tally.proofs.Example.{third_reaches_lem}
use Rattle.laws.proofs.examples_stand.Goals as goal

pub returns : goal.returns
returns c = record {
  quorums = record { of_4 = refl; of_13 = refl };
  ranks = examples;
  coins = record {
    first_two = refl;
    first_two_elect = refl;
    second_and_fourth = refl;
    second_and_fourth_elect = refl;
    first_and_third = refl;
    first_and_third_elect = refl;
    inverse_of_2 = refl;
    inverse_of_256 = refl;
  };
  tallies = third_reaches_lem (by_number (λ (t : KeptTimeout). t.view.0));
  repeated = refl;
  commits = refl;
  locks = refl;
  exits = refl;
}
