-- The members of shares, and the member that a number elects.
use Rattle.std.specs.Prelude.{ℕ, ◌%◌, ◌<◌, ◌≤◌, List, [], ◌∷◌}
use Rattle.std.proofs.Common.{mod-lt, arith}
use Rattle.coin.specs.declared.shares.Share.{Share}
use Rattle.coin.specs.Shares.{WellFormed, Member, member_of}

-- well-formed shares have a member, so there is one
pub someone : (n greatest : ℕ) (shares : List Share) → WellFormed n greatest shares → 1 ≤ n
someone n greatest [] formed = let e = formed.count in absurd (omega arith)
someone n greatest (s ∷ ss) formed = let k = formed.known.0 in omega arith

pub member_among : (n s : ℕ) → 1 ≤ n → Member n (member_of n s)
member_among n s h = let l : s % n < n = mod-lt s h in omega arith
