-- Elements of two lists put together.
use Rattle.std.proofs.Common.{◌⊎◌, List, [], ◌∷◌, ◌++◌, inl, inr}
use Rattle.safety.specs.Lists.{◌∈◌, Before}

pub in_either : {A : Type 0} (k l : List A) (x : A) → x ∈ (k ++ l) → (x ∈ k) ⊎ (x ∈ l)
in_either [] l x i = inr i
in_either (z ∷ k) l x (inl e) = inl (inl e)
in_either (z ∷ k) l x (inr i) = elim (in_either k l x i) [ inl j ↦ inl (inr j) | inr j ↦ inr j ]

pub before_either : {A : Type 0} (k l : List A) (x y : A) → Before (k ++ l) x y → Before k x y ⊎ (((x ∈ k) × (y ∈ l)) ⊎ Before l x y)
before_either [] l x y b = inr (inr b)
before_either (z ∷ k) l x y (inl (e, i)) =
    elim (in_either k l y i) [ inl j ↦ inl (inl (e, j)) | inr j ↦ inr (inl (inl e, j)) ]
before_either (z ∷ k) l x y (inr b) =
    elim (before_either k l x y b) [
      | inl c ↦ inl (inr c)
      | inr (inl (i, j)) ↦ inr (inl (inr i, j))
      | inr (inr c) ↦ inr (inr c)
    ]
