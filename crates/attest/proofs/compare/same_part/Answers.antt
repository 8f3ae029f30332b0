use Rattle.std.proofs.Common.{◌≡◌, ℕ, eqb, List, [], ◌∷◌, map, length, sym, refl, ap, ◌∙◌, arith}
use lib.Bits.{bit_or, bit_xor, and_le_l, and_le_r, or_add_and, or_zero_l, xor_add_and, xor_self}
use Rattle.std.specs.List.{fold, zip}
use Rattle.std.specs.Str.{bytes_eq}
use Rattle.std.proofs.lemmas.Slice.Eq.{bytes_eq-Decides}
use Rattle.std.proofs.lemmas.Bool.{eqb-true, eq-eqb}
use Rattle.std.proofs.lemmas.Bool.Decides.{same_from_decides}
use Rattle.attest.proofs.compare.same_part.Goals as goal

nothing_or : (x y : ℕ) → bit_or x y ≡ 0 → (x ≡ 0) × (y ≡ 0)
nothing_or x y e = (omega (arith, or_add_and x y, and_le_r x y), omega (arith, or_add_and x y, and_le_l x y))

nothing_xor : (x y : ℕ) → bit_xor x y ≡ 0 → x ≡ y
nothing_xor x y e = omega (arith, xor_add_and x y, and_le_l x y, and_le_r x y)

abbrev differences : List ℕ → List ℕ → List ℕ
differences xs ys = map (λ (p : ℕ × ℕ). bit_xor p.0 p.1) (zip xs ys)

no_difference : (xs ys : List ℕ) (d : ℕ) → length xs ≡ length ys → fold bit_or d (differences xs ys) ≡ 0 → (d ≡ 0) × (xs ≡ ys)
no_difference [] [] d long e = (e, refl)
no_difference [] (y ∷ ys) d long e = absurd (omega arith)
no_difference (x ∷ xs) [] d long e = absurd (omega arith)
no_difference (x ∷ xs) (y ∷ ys) d long e =
    let rest = no_difference xs ys (bit_or d (bit_xor x y)) (omega arith) e in
    let parts = nothing_or d (bit_xor x y) rest.0 in
    let same : x ≡ y = nothing_xor x y parts.1 in
    (parts.0, ap (λ z. z ∷ xs) same ∙ ap (λ zs. y ∷ zs) rest.1)

fold-same : (xs : List ℕ) → fold bit_or 0 (differences xs xs) ≡ 0
fold-same [] = refl
fold-same (x ∷ xs) = ap (λ d. fold bit_or d (differences xs xs)) (or_zero_l (bit_xor x x) ∙ xor_self x) ∙ fold-same xs

decided : (xs ys : List ℕ) (d : ℕ) → length xs ≡ length ys → d ≡ fold bit_or 0 (differences xs ys) → eqb d 0 ≡ bytes_eq xs ys
decided xs ys d long is =
    same_from_decides (eqb d 0) (bytes_eq xs ys) (
      λ t. (no_difference xs ys 0 long (sym is ∙ eqb-true d 0 t)).1,
      λ e. eq-eqb d 0 (is ∙ ap (λ zs. fold bit_or 0 (differences xs zs)) (sym e) ∙ fold-same xs),
    )
    (bytes_eq-Decides xs ys)

pub returns : goal.returns
returns c = decided c.args.part.now c.args.right.now c.differences.result (c.requires ∙ sym c.told-right) c.differences.ensures
