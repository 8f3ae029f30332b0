-- The members, how much each one's vote weighs, who of them is honest, and quorums.
use Rattle.std.specs.Prelude.{◌≡◌, ℕ, zero, suc, ◌+◌, ◌*◌, ◌<◌, ◌≤◌, Bool, cond, List, [], ◌∷◌}
use Rattle.safety.specs.Lists.{◌∈◌, Distinct, total}

pub record Committee : Type 0 where
  -- the members are 1 to this number
  pub members : ℕ
  -- how much a member's vote weighs: 1 where votes are counted
  pub weight : ℕ → ℕ
  pub honest : ℕ → Bool
  -- the dishonest weight that is tolerated
  pub faults : ℕ

-- the members 1 to n
abbrev pub up_to : ℕ → List ℕ
up_to zero = []
up_to (suc n) = suc n ∷ up_to n

module _ (c : Committee) where
  open c use {members, weight, honest, faults}

  abbrev pub total_weight : ℕ
  total_weight = total weight (up_to members)

  abbrev pub dishonest_weight : ℕ
  dishonest_weight = total (λ m. cond (honest m) 0 (weight m)) (up_to members)

  pub record FewFaults : Type 0 where
    -- less than a third of the weight is tolerated
    pub third : 3 * faults < total_weight
    -- no more than is tolerated is dishonest
    pub few : dishonest_weight ≤ faults

  -- distinct members that together have all the weight but the tolerated one, or more
  pub record Quorum (signers : List ℕ) : Type 0 where
    pub are_members : (m : ℕ) → m ∈ signers → m ∈ up_to members
    pub distinct : Distinct signers
    pub enough : total_weight ≤ total weight signers + faults

  -- votes are counted: there are 3f + 1 members of weight 1, and f faults are tolerated
  pub record Counted (f : ℕ) : Type 0 where
    pub size : members ≡ 3 * f + 1
    pub each_one : (m : ℕ) → weight m ≡ 1
    pub tolerated : faults ≡ f
