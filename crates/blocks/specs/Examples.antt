-- Worked examples of leaders and ranks.
use Rattle.std.specs.Prelude.{◌≡◌, ℕ, true, [], ◌∷◌, map, Some}
use Rattle.blocks.specs.declared.rank.Kind.{Kind}
use Rattle.blocks.specs.declared.rank.Kind.TheVariants.{Regular, Fallback}
use Rattle.blocks.specs.declared.rank.Rank.{Rank}
use Rattle.blocks.specs.Ranks.{view, round, less_rank, leading}

abbrev rank : ℕ → Kind → ℕ → Rank
rank v k r = record { view = view v; kind = k; round = round r }

pub record Examples : Type 0 where
  -- of four members, rounds 1, 4, 5 and 17 are led by 1, 1, 2 and 1
  pub leaders : map (leading 4) (1 ∷ 4 ∷ 5 ∷ 17 ∷ []) ≡ Some 1 ∷ Some 1 ∷ Some 2 ∷ Some 1 ∷ []
  -- (0, 0, 9) is below (0, 1, 4), and that is below (1, 0, 2)
  pub kind_first : less_rank (rank 0 Regular 9) (rank 0 Fallback 4) ≡ true
  pub view_first : less_rank (rank 0 Fallback 4) (rank 1 Regular 2) ≡ true
