-- Membership, order and weight of the elements of a list.
use Rattle.std.specs.Prelude.{◌≡◌, ℕ, ◌+◌, ◌⊎◌, List, [], ◌∷◌}

infix 50 ◌∈◌
abbrev pub ◌∈◌ : {A : Type 0} → A → List A → Type 0
x ∈ [] = ⊥
x ∈ (y ∷ ys) = (x ≡ y) ⊎ (x ∈ ys)

-- x stands in the list, and y stands at a later place
abbrev pub Before : {A : Type 0} → List A → A → A → Type 0
Before [] x y = ⊥
Before (z ∷ zs) x y = ((x ≡ z) × (y ∈ zs)) ⊎ Before zs x y

abbrev pub Distinct : {A : Type 0} → List A → Type 0
Distinct [] = Unit {0}
Distinct (x ∷ xs) = ¬ (x ∈ xs) × Distinct xs

-- the weight of all the elements together
abbrev pub total : {A : Type 0} → (A → ℕ) → List A → ℕ
total weight [] = 0
total weight (x ∷ xs) = weight x + total weight xs
