-- Extending is an order, and the ancestors of a block are a chain.
use Rattle.std.proofs.Common.{◌≡◌, ℕ, ◌<◌, ◌≤◌, Bool, true, eqb, ◌⊎◌, List, is_some, IfSome, Some, None, Option, sym, refl, ap, ◌∙◌, subst, inl, inr, ⊎_elim, arith}
use Rattle.std.proofs.lemmas.Bool.{eqb-true, eq-eqb, cases_eq, cases_Bool, cond_both}
use Rattle.table.specs.declared.held.Held.{Held}
use Rattle.table.specs.Places.{up}
use Rattle.table.specs.Ancestry.{first_up, extends, ancestor, round_at}
use Rattle.table.specs.Laws.{Ancestor, Ancestors, Ancestry}
use Rattle.table.proofs.Walks.{along, up_lower, first_here, first_above, extends_same, extends_above, extends_low}

pub found_map : {A : Type 0} (P Q : A → Type 0) (o : Option A) → ((x : A) → P x → Q x) → IfSome o P → IfSome o Q
found_map P Q None f h = tt
found_map P Q (Some x) f h = f x h

-- place i is on the way up from a and passes the test
record Passes (t : List Held) (test : ℕ → Bool) (a i : ℕ) : Type 0 where
  reached : extends t a i ≡ true
  passed : test i ≡ true

module _ (t : List Held) where
  pub extends_self : (a : ℕ) → extends t a a ≡ true
  extends_self a = extends_same t a a refl

  pub extends_more : (i b : ℕ) → 0 < i → extends t (up t i) b ≡ true → extends t i b ≡ true
  extends_more i b pos h = ⊎_elim (λ e. extends_same t i b e) (λ ne. extends_above t i b ne pos ∙ h) (cases_eq i b)

  pub extends_parent : (i : ℕ) → 0 < i → extends t i (up t i) ≡ true
  extends_parent i pos = extends_more i (up t i) pos (extends_self (up t i))

  -- what holds at b, and of each place above b of whose parent it holds, holds of every place that extends b
  pub between : (b : ℕ) (P : ℕ → Type 0) → P b → ((i : ℕ) → 0 < i → extends t (up t i) b ≡ true → P (up t i) → P i) → (a : ℕ) → extends t a b ≡ true → P a
  between b P end step a =
      along t (λ i. extends t i b ≡ true → P i) (λ h. subst P (sym (eqb-true 0 b (sym (extends_low t 0 b (omega arith)) ∙ h))) end) on a
    where
      on : (i : ℕ) → 0 < i → (extends t (up t i) b ≡ true → P (up t i)) → extends t i b ≡ true → P i
      on i pos before h =
          ⊎_elim (λ e. subst P (sym e) end)
          (λ ne. let k = sym (extends_above t i b ne pos) ∙ h in step i pos k (before k)) (cases_eq i b)

  pub extends_through : (a b c : ℕ) → extends t a b ≡ true → extends t b c ≡ true → extends t a c ≡ true
  extends_through a b c h k = between b (λ i. extends t i c ≡ true) k (λ i pos _ below. extends_more i c pos below) a h

  pub extends_root : (a : ℕ) → extends t a 0 ≡ true
  extends_root a = along t (λ i. extends t i 0 ≡ true) (extends_self 0) (λ i pos below. extends_more i 0 pos below) a

  pub extends_lower : (a b : ℕ) → extends t a b ≡ true → b ≤ a
  extends_lower a b h = between b (λ i. b ≤ i) (omega arith) (λ i pos _ below. omega (arith, up_lower t i pos)) a h

  pub extends_chain : (a b c : ℕ) → extends t a b ≡ true → extends t a c ≡ true → (extends t b c ≡ true) ⊎ (extends t c b ≡ true)
  extends_chain a b c h = between b (λ i. extends t i c ≡ true → (extends t b c ≡ true) ⊎ (extends t c b ≡ true)) (λ k. inl k) on a h
    where
      on : (i : ℕ) → 0 < i → extends t (up t i) b ≡ true → (extends t (up t i) c ≡ true → (extends t b c ≡ true) ⊎ (extends t c b ≡ true))
          → extends t i c ≡ true → (extends t b c ≡ true) ⊎ (extends t c b ≡ true)
      on i pos e before k =
          ⊎_elim (λ same. inr (subst (λ j. extends t j b ≡ true) same (extends_more i b pos e)))
          (λ ne. before (sym (extends_above t i c ne pos) ∙ k)) (cases_eq i c)

  module _ (test : ℕ → Bool) where
    first_right : (a : ℕ) → IfSome (first_up t test a) (Passes t test a)
    first_right a =
        along t (λ i. IfSome (first_up t test i) (Passes t test i))
        (cond_both (test 0) (Some 0) None (λ o. IfSome o (Passes t test 0)) (λ e. record { reached = extends_self 0; passed = e }) (λ _. tt)) on a
      where
        on : (i : ℕ) → 0 < i → IfSome (first_up t test (up t i)) (Passes t test (up t i)) → IfSome (first_up t test i) (Passes t test i)
        on i pos below =
            ⊎_elim (λ e. subst (λ o. IfSome o (Passes t test i)) (sym (first_here t test i e)) (record { reached = extends_self i; passed = e }))
            (λ e. subst (λ o. IfSome o (Passes t test i)) (sym (first_above t test i e pos))
            (found_map (Passes t test (up t i)) (Passes t test i) (first_up t test (up t i))
            (λ j h. record { reached = extends_more i j pos h.reached; passed = h.passed }) below)) (cases_Bool (test i))

    first_sought : (a b : ℕ) → extends t a b ≡ true → test b ≡ true → is_some (first_up t test a) ≡ true
    first_sought a b h e =
        between b (λ i. is_some (first_up t test i) ≡ true) (ap is_some (first_here t test b e))
        (λ i pos _ below. ⊎_elim (λ here. ap is_some (first_here t test i here)) (λ other. ap is_some (first_above t test i other pos) ∙ below) (cases_Bool (test i))) a h

  pub ancestors : (a round : ℕ) → Ancestors t a round (ancestor t a round)
  ancestors a round = record {
    right =
        found_map (Passes t (λ i. eqb (round_at t i) round) a) (Ancestor t a round) (ancestor t a round)
        (λ i h. record { extended = h.reached; of_round = eqb-true (round_at t i) round h.passed }) (first_right (λ i. eqb (round_at t i) round) a);
    sought = λ i h. first_sought (λ i. eqb (round_at t i) round) a i h.extended (eq-eqb (round_at t i) round h.of_round);
  }

  pub ancestry : Ancestry t
  ancestry = record {
    reflexive = extends_self;
    transitive = extends_through;
    antisymmetric = λ a b h k. omega (arith, extends_lower a b h, extends_lower b a k);
    root = extends_root;
    chain = extends_chain;
  }
