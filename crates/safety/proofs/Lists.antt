-- Lists: two elements in order, membership decided, and totals compared.
use Rattle.std.proofs.Common.{◌≡◌, ℕ, ◌+◌, ◌≤◌, ◌⊎◌, List, [], ◌∷◌, sym, ◌∙◌, inl, inr, ⊎_elim, arith}
use Rattle.safety.specs.Lists.{◌∈◌, Before, total}
use Rattle.std.proofs.lemmas.Bool.{cases_eq}

-- two elements of a list are one, or one stands before the other
pub in_order : {A : Type 0} (l : List A) (x y : A) → x ∈ l → y ∈ l → (x ≡ y) ⊎ (Before l x y ⊎ Before l y x)
in_order [] x y i j = absurd i
in_order (z ∷ l) x y (inl p) (inl q) = inl (p ∙ sym q)
in_order (z ∷ l) x y (inl p) (inr j) = inr (inl (inl (p, j)))
in_order (z ∷ l) x y (inr i) (inl q) = inr (inr (inl (q, i)))
in_order (z ∷ l) x y (inr i) (inr j) =
    elim (in_order l x y i j) [ inl e ↦ inl e | inr (inl b) ↦ inr (inl (inr b)) | inr (inr b) ↦ inr (inr (inr b)) ]

pub find : (m : ℕ) (l : List ℕ) → (m ∈ l) ⊎ ¬ (m ∈ l)
find m [] = inr (λ h. h)
find m (x ∷ l) =
    elim (cases_eq m x) [
      | inl e ↦ inl (inl e)
      | inr other ↦ elim (find m l) [ inl h ↦ inl (inr h) | inr none ↦ inr (⊎_elim other none) ]
    ]

pub total_mono : (g h : ℕ → ℕ) → ((m : ℕ) → g m ≤ h m) → (l : List ℕ) → total g l ≤ total h l
total_mono g h le [] = omega arith
total_mono g h le (x ∷ l) = omega (arith, le x, total_mono g h le l)

-- a total grows at least by what one element's weight grows
pub total_more : (g h : ℕ → ℕ) → ((m : ℕ) → g m ≤ h m) → (x d : ℕ) → g x + d ≤ h x → (l : List ℕ) → x ∈ l → total g l + d ≤ total h l
total_more g h le x d more [] i = absurd i
total_more g h le x d more (y ∷ l) (inl p) =
    let here : g y + d ≤ h y = rw p at more in
    omega (arith, total_mono g h le l)
total_more g h le x d more (y ∷ l) (inr i) = omega (arith, le y, total_more g h le x d more l i)
