-- Worked examples of elections among 4 members by the polynomial coin.
use Rattle.std.specs.Prelude.{◌≡◌, ℕ, [], ◌∷◌}
use Rattle.coin.specs.declared.shares.Share.{Share}
use Rattle.coin.specs.Interpolation.{inverse_of, at_zero, elected_by}

abbrev share : ℕ → ℕ → Share
share m v = record { member = m; value = v }

pub record Examples : Type 0 where
  -- of the values 103, 106, 109, 112
  pub first_two : at_zero 2 (share 1 103 ∷ share 2 106 ∷ []) ≡ 100
  pub first_two_elect : elected_by 4 (share 1 103 ∷ share 2 106 ∷ []) ≡ 1
  pub second_and_fourth : at_zero 2 (share 2 106 ∷ share 4 112 ∷ []) ≡ 100
  pub second_and_fourth_elect : elected_by 4 (share 2 106 ∷ share 4 112 ∷ []) ≡ 1
  -- of the values 255, 3, 8, 13
  pub first_and_third : at_zero 2 (share 1 255 ∷ share 3 8 ∷ []) ≡ 250
  pub first_and_third_elect : elected_by 4 (share 1 255 ∷ share 3 8 ∷ []) ≡ 3
  pub inverse_of_2 : inverse_of 2 ≡ 129
  pub inverse_of_256 : inverse_of 256 ≡ 256
