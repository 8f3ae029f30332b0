-- Ranks are ordered from the left.
use Rattle.std.proofs.Common.{◌≡◌, ℕ, ◌<◌, true, false, ◌⊎◌, refl, ap, ◌∙◌, inl, inr, arith}
use Rattle.std.proofs.lemmas.Bool.{cases_Bool, cases_lt}
use Rattle.std.proofs.lemmas.Bool.Decides.{nat_tests}
use Rattle.blocks.specs.declared.rank.Kind.{Kind}
use Rattle.blocks.specs.declared.rank.Kind.TheVariants.{Regular, Fallback}
use Rattle.blocks.specs.declared.rank.Rank.{Rank}
use Rattle.blocks.specs.Ranks.{kind_number, view, round, less_rank, Below, by_view, by_kind, by_round, RanksOrdered}
use Rattle.blocks.proofs.SameStatements.{same_kind}

irreflexive : (a : Rank) → less_rank a a ≡ false
irreflexive a = grind (arith, nat_tests)

transitive : (a b c : Rank) → less_rank a b ≡ true → less_rank b c ≡ true → less_rank a c ≡ true
transitive a b c p q = grind (arith, nat_tests)

-- two views or ranks with the same numbers are the same
same_view : (a b : Rank) → a.view.0 ≡ b.view.0 → a.view ≡ b.view
same_view a b e = ap view e

same_rank : (a b : Rank) → a.view.0 ≡ b.view.0 → kind_number a.kind ≡ kind_number b.kind → a.round.0 ≡ b.round.0 → a ≡ b
same_rank a b v k r =
    let kinds = same_kind a.kind b.kind k in
    ap (λ (n : ℕ). record { view = view n; kind = a.kind; round = a.round }) v
    ∙ (ap (λ (l : Kind). record { view = b.view; kind = l; round = a.round }) kinds
    ∙ ap (λ (n : ℕ). record { view = b.view; kind = b.kind; round = round n }) r)

total : (a b : Rank) → (less_rank a b ≡ true) ⊎ ((a ≡ b) ⊎ (less_rank b a ≡ true))
total a b = elim (cases_Bool (less_rank a b)) [
  | inl less ↦ inl less
  | inr no_less ↦ elim (cases_Bool (less_rank b a)) [
    | inl more ↦ inr (inr more)
    | inr no_more ↦ inr (inl (same_rank a b (grind (arith, nat_tests)) (grind (arith, nat_tests)) (grind (arith, nat_tests))))
  ]
]

lower_kind : (k l : Kind) → kind_number k < kind_number l → (k ≡ Regular) × (l ≡ Fallback)
lower_kind Regular Regular h = absurd (omega arith)
lower_kind Regular Fallback h = (refl, refl)
lower_kind Fallback Regular h = absurd (omega arith)
lower_kind Fallback Fallback h = absurd (omega arith)

in_words : (a b : Rank) → less_rank a b ≡ true → Below a b
in_words a b p = elim (cases_lt a.view.0 b.view.0) [
  | inl lower ↦ by_view lower
  | inr no_lower ↦
      let v : a.view.0 ≡ b.view.0 = grind (arith, nat_tests) in
      elim (cases_lt (kind_number a.kind) (kind_number b.kind)) [
        | inl less ↦ by_kind (same_view a b v) (lower_kind a.kind b.kind less).0 (lower_kind a.kind b.kind less).1
        | inr no_less ↦ by_round (same_view a b v) (same_kind a.kind b.kind (grind (arith, nat_tests))) (grind (arith, nat_tests))
      ]
]

by_words : (a b : Rank) → Below a b → less_rank a b ≡ true
by_words a b (by_view v) = grind (arith, nat_tests)
by_words a b (by_kind v k l) =
    let views : a.view.0 ≡ b.view.0 = ap (λ w. w.0) v in
    let one : kind_number a.kind ≡ 0 = ap kind_number k in
    let other : kind_number b.kind ≡ 1 = ap kind_number l in
    grind (arith, nat_tests)
by_words a b (by_round v k r) =
    let views : a.view.0 ≡ b.view.0 = ap (λ w. w.0) v in
    let kinds : kind_number a.kind ≡ kind_number b.kind = ap kind_number k in
    grind (arith, nat_tests)

pub ordered : RanksOrdered
ordered = record { compared = λ a b. (in_words a b, by_words a b); irreflexive = irreflexive; transitive = transitive; total = total }
