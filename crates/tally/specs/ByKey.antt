-- Items that rank by a key and are alike at equal keys have the likeness that a tally asks for.
use Rattle.std.specs.Prelude.{◌≡◌, ℕ, Bool, true, false, Decides, nat_eq, nat_lt, refl}
use Rattle.std.proofs.Common.{sym, ap, ◌∙◌, arith}
use Rattle.std.proofs.lemmas.Bool.Decides.{nat_tests, Decides-eqb}
use Rattle.tally.specs.Likeness.{Likeness}

module _ {T K : Type 0} (key : T → K) (over same : K → K → Bool) (decides : (a b : K) → Decides (same a b) (a ≡ b)) where
  pub by_key : ((a : K) → over a a ≡ false) → ((a b c : K) → over a b ≡ true → over b c ≡ true → over a c ≡ true) → ((a b c : K) → over a c ≡ true → over b c ≡ false → over a b ≡ true) → Likeness (λ (x y : T). over (key x) (key y)) (λ x y. same (key x) (key y))
  by_key irreflexive transitive graded =
      let equal : (x y : T) → same (key x) (key y) ≡ true → key x ≡ key y = λ x y. (decides (key x) (key y)).0 in
      record {
        irreflexive = λ x. irreflexive (key x);
        transitive = λ x y z. transitive (key x) (key y) (key z);
        graded = λ x y z. graded (key x) (key y) (key z);
        itself = λ x. (decides (key x) (key x)).1 refl;
        turned = λ x y e. (decides (key y) (key x)).1 (sym (equal x y e));
        joined = λ x y z e f. (decides (key x) (key z)).1 (equal x y e ∙ equal y z f);
        level_above = λ x y z e. ap (λ a. over a (key z)) (equal x y e);
        level_below = λ x y z e. ap (over (key z)) (equal x y e);
      }

pub by_number : {T : Type 0} (number : T → ℕ) → Likeness (λ (x y : T). nat_lt (number y) (number x)) (λ x y. nat_eq (number x) (number y))
by_number number =
    by_key
    number
    (λ a b. nat_lt b a)
    nat_eq
    Decides-eqb
    (λ a. grind (arith, nat_tests))
    (λ a b c ab bc. grind (arith, nat_tests))
    (λ a b c ac bc. grind (arith, nat_tests))
