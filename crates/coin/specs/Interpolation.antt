-- The value at 0 of the polynomial modulo 257 through given shares: Newton's divided differences, with 256 for -1.
use Rattle.std.specs.Prelude.{◌≡◌, ℕ, zero, suc, ◌+◌, ◌*◌, ◌%◌, ◌^◌, ◌<◌, List, [], ◌∷◌, map, length}
use Rattle.std.specs.List.{range_with_len}
use Rattle.coin.specs.declared.shares.Share.{Share}
use Rattle.coin.specs.Shares.{member_of}

-- the inverse of a modulo 257, by Fermat's theorem
abbrev pub inverse_of : ℕ → ℕ
inverse_of a = a ^ 255 % 257

-- the inverses of 1 to 256
abbrev pub inverses : List ℕ
inverses = map inverse_of (range_with_len 1 256)

-- r is the inverse of a
pub record Inverse (a r : ℕ) : Type 0 where
  pub is : r ≡ inverse_of a
  pub inverts : a * r % 257 ≡ 1
  pub below : r < 257

-- the divided difference of t against s
abbrev pub reduce : Share → Share → Share
reduce s t = record {
  member = t.member;
  value = (t.value + 256 * s.value) % 257 * inverse_of ((t.member + 256 * s.member) % 257) % 257;
}

-- the value at 0 of a polynomial through s, whose slopes from s have the value `slope` at 0
abbrev pub from_slope : Share → ℕ → ℕ
from_slope s slope = (s.value + 256 * (s.member * slope)) % 257

-- the value at 0 of the polynomial through the first k shares
abbrev pub at_zero : ℕ → List Share → ℕ
at_zero zero ss = 0
at_zero (suc k) [] = 0
at_zero (suc k) (s ∷ ss) = from_slope s (at_zero k (map (reduce s) ss))

abbrev pub elected_by : ℕ → List Share → ℕ
elected_by n shares = member_of n (at_zero (length shares) shares)
