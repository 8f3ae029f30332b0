-- Runs of one line of blocks, for the examples: four members, of which the fourth is dishonest. A block is its round, member 1 proposes and
-- wins, and everybody casts the same votes.
use Rattle.std.proofs.Common.{ℕ, ◌-◌, ◌≤◌, ltb, List, [], ◌∷◌, refl, inl, inr, arith}
use Rattle.safety.specs.Lists.{◌∈◌}
use Rattle.safety.specs.Runs.{Run}
use Rattle.safety.specs.Certificates.{Certified, Official}
use Rattle.std.proofs.lemmas.Bool.{cases_eq}

abbrev pub line : (ℕ → ℕ) → (ℕ → ℕ) → List ℕ → Run ℕ
line view height cast = record {
  committee = record { members = 4; weight = λ m. 1; honest = λ m. ltb m 4; faults = 1 };
  genesis = 0;
  parent = λ b. b - 1;
  view = view;
  round = λ b. b;
  proposer = λ b. 1;
  height = height;
  winner = λ v. 1;
  votes = λ m. cast;
}

module _ (view height : ℕ → ℕ) (cast : List ℕ) (b : ℕ) (voted : 1 ≤ b → b ∈ cast) where
  pub certified_in_line : Certified (line view height cast) b
  certified_in_line =
      elim (cases_eq b 0) [
        | inl e ↦ inl e
        | inr some ↦ inr (record {
          signers = 1 ∷ 2 ∷ 3 ∷ [];
          quorum = record { are_members = λ m i. grind arith; distinct = omega arith; enough = omega arith };
          voted = λ m i h. voted (omega arith);
        })
      ]

  pub official_in_line : Official (line view height cast) b
  official_in_line = record { certified = certified_in_line; by_winner = λ f. refl }
