-- Dealings and shares: when shares are well formed, and what an election of them answers.
use Rattle.std.specs.Prelude.{◌≡◌, ℕ, ◌+◌, ◌-◌, ◌/◌, ◌%◌, ◌≤◌, Bool, ◌&&◌, ◌≢◌, List, [], ◌∷◌, length, Ok, Err, MatchBool, Result, nat_lt, nat_le}
use Rattle.std.specs.List.{AllByRecursion}
use Rattle.coin.specs.declared.shares.Share.{Share}
use Rattle.coin.specs.declared.shares.ElectError.{ElectError}
use Rattle.coin.specs.declared.shares.ElectError.TheVariants.{Count, Unknown, Repeated, Excess}

-- b is true exactly where P holds
abbrev pub Tells : Bool → Type 0 → Type 0
Tells b P = MatchBool b P (P → ⊥)

-- the value that each view and member is given
abbrev pub Dealing : Type 0
Dealing = ℕ → ℕ → ℕ

-- how many of n members may be dishonest: the f of n = 3 f + 1
abbrev pub faults : ℕ → ℕ
faults n = (n - 1) / 3

-- how many shares elect: f + 1, so that one of them is an honest member's
abbrev pub size : ℕ → ℕ
size n = faults n + 1

-- m is one of the members 1 to n
abbrev pub Member : ℕ → ℕ → Type 0
Member n m = (1 ≤ m) × (m ≤ n)

-- the same as a test
abbrev pub is_member : ℕ → ℕ → Bool
is_member n m = nat_lt 0 m && nat_le m n

-- the member that the number s elects
abbrev pub member_of : ℕ → ℕ → ℕ
member_of n s = s % n + 1

abbrev pub Known : ℕ → Share → Type 0
Known n s = Member n s.member

abbrev pub AllKnown : ℕ → List Share → Type 0
AllKnown n shares = AllByRecursion (Known n) shares

-- t is a share of another member than s
abbrev pub Other : Share → Share → Type 0
Other s t = t.member ≢ s.member

-- no two shares have one member
abbrev pub Apart : List Share → Type 0
Apart [] = Unit {0}
Apart (s ∷ ss) = AllByRecursion (Other s) ss × Apart ss

abbrev pub Within : ℕ → Share → Type 0
Within greatest s = s.value ≤ greatest

abbrev pub AllWithin : ℕ → List Share → Type 0
AllWithin greatest shares = AllByRecursion (Within greatest) shares

pub record WellFormed (n greatest : ℕ) (shares : List Share) : Type 0 where
  pub count : length shares ≡ size n
  pub known : AllKnown n shares
  pub apart : Apart shares
  pub within : AllWithin greatest shares

-- each share is the one that the dealing gives its member in the view
abbrev pub Dealt : Dealing → ℕ → List Share → Type 0
Dealt d view shares = AllByRecursion (λ s. s.value ≡ d view s.member) shares

-- the error e is the first that the shares make
abbrev pub Refused : ℕ → ℕ → List Share → ElectError → Type 0
Refused n greatest shares Count = length shares ≢ size n
Refused n greatest shares Unknown = (length shares ≡ size n) × (AllKnown n shares → ⊥)
Refused n greatest shares Repeated = (length shares ≡ size n) × AllKnown n shares × (Apart shares → ⊥)
Refused n greatest shares Excess = (length shares ≡ size n) × AllKnown n shares × Apart shares × (AllWithin greatest shares → ⊥)

-- the number of each error: a call whose shares are not well formed is refused with 2
abbrev pub refusal : ElectError → ℕ
refusal Count = 2
refusal Unknown = 2
refusal Repeated = 2
refusal Excess = 2

-- what an election answers: the member w where the shares are well formed, and else what is wrong with them
abbrev pub Answers : ℕ → ℕ → List Share → ℕ → Result ℕ ElectError → Type 0
Answers n greatest shares w (Ok v) = WellFormed n greatest shares × (v ≡ w)
Answers n greatest shares w (Err e) = Refused n greatest shares e

-- what stands where there is no share
abbrev pub nobody : Share
nobody = record { member = 0; value = 0 }
