-- The drawn list: one number for all members of a view.
use Rattle.std.specs.Prelude.{◌≡◌, ℕ, cond, List, [], ◌∷◌, nat_lt, slice_index_or}
use Rattle.coin.specs.declared.shares.Share.{Share}
use Rattle.coin.specs.Shares.{Dealing, Member, member_of, nobody}

-- in each view all members have the value of member 1
abbrev pub Equal : ℕ → Dealing → Type 0
Equal n d = (view m : ℕ) → Member n m → d view m ≡ d view 1

-- the view's winner is elected by the value of member 1, the lowest-numbered
abbrev pub drawn_for : ℕ → Dealing → ℕ → ℕ
drawn_for n d view = member_of n (d view 1)

-- of two shares the one of the lower-numbered member
abbrev pub lower : Share → Share → Share
lower s t = cond (nat_lt t.member s.member) t s

-- of s and the shares the one of the lowest-numbered member
abbrev pub lowest : Share → List Share → Share
lowest s [] = s
lowest s (t ∷ ts) = lowest (lower s t) ts

abbrev pub drawn_by : ℕ → List Share → ℕ
drawn_by n shares = member_of n (lowest (slice_index_or shares 0 nobody) shares).value
