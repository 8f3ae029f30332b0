-- The size of a group.
use Rattle.std.specs.Prelude.{◌≡◌, ℕ, cond, ◌&&◌, Some, None, Option, Result, MatchResult, nat_le}
use Rattle.attest.specs.Limits.{max_members}
use Rattle.attest.specs.declared.group.GroupSize.{GroupSize}
use Rattle.attest.specs.declared.group.NoGroupSize.{NoGroupSize}

-- a group has 1 to 13 members
abbrev pub size_of : ℕ → Option ℕ
size_of n = cond (nat_le 1 n && nat_le n max_members) (Some n) None

-- the size of n members, and an error only where no group has so many
abbrev pub Sized : ℕ → Result GroupSize NoGroupSize → Type 0
Sized n r = MatchResult r (λ g. Some g.number ≡ size_of n) (λ _. None ≡ size_of n)
