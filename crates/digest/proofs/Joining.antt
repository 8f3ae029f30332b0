-- Words that are written one after the other.
use Rattle.std.proofs.Common.{◌≡◌, ℕ, suc, ◌<◌, List, [], ◌∷◌, ◌++◌, length, get_or, refl, ap, ◌∙◌, arith}
use Rattle.std.specs.Array.{IsMapOf}
use Rattle.std.specs.Fn.{Called}
use denote.Param.Members.{Mut}
use Rattle.std.specs.List.{flat_map}

joined_same : (f : ℕ → List ℕ) (xs : List ℕ) (ys : List (List ℕ)) → length ys ≡ length xs
    → ((i : ℕ) → i < length xs → get_or ys i [] ≡ f (get_or xs i 0)) → flat_map (λ (y : List ℕ). y) ys ≡ flat_map f xs
joined_same f [] [] long same = refl
joined_same f [] (y ∷ ys) long same = cc
joined_same f (x ∷ xs) [] long same = cc
joined_same f (x ∷ xs) (y ∷ ys) long same =
    ap (λ (z : List ℕ). z ++ flat_map (λ (y : List ℕ). y) ys) (same 0 (omega arith))
    ∙ ap (λ (z : List ℕ). f x ++ z) (joined_same f xs ys (omega arith) (λ i h. same (suc i) (omega arith)))

-- lists that a closure gave of each element, one after the other
pub joined_map : {F : Type 0} (g : Mut F (ℕ × Unit {0}) (List ℕ)) (c : F) (f : ℕ → List ℕ) (xs : List ℕ) (ys : List (List ℕ)) (n : ℕ) → IsMapOf g c xs ys n
    → length xs ≡ n → ((p q : F) (x : ℕ) (y : List ℕ) → Called g p (x, tt) y q → y ≡ f x) → flat_map (λ (y : List ℕ). y) ys ≡ flat_map f xs
joined_map g c f xs ys n made long gives =
    joined_same f xs ys (omega arith)
    (λ i h. let call = made.at i 0 [] (omega arith) in gives call.0 call.1 (get_or xs i 0) (get_or ys i []) call.2)
