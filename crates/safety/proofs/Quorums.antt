-- Two quorums have an honest member in common, for together they weigh more than everybody and the dishonest once more.
use Rattle.std.proofs.Common.{◌≡◌, ℕ, ◌+◌, ◌≤◌, Bool, true, false, cond, T, ◌⊎◌, List, [], ◌∷◌, refl, inl, inr, arith}
use Rattle.safety.specs.Lists.{◌∈◌, Distinct, total}
use Rattle.safety.specs.Committees.{up_to}
use Rattle.safety.specs.Theorems.{QuorumsMeet}
use Rattle.safety.proofs.Lists.{find, total_more}

-- a weight that counts where A holds
abbrev share : {A : Type 0} → A ⊎ ¬ A → ℕ → ℕ
share (inl a) w = w
share (inr none) w = 0

share_all : {A : Type 0} (d : A ⊎ ¬ A) (w : ℕ) → A → share d w ≡ w
share_all (inl a) w h = refl
share_all (inr none) w h = absurd (none h)

share_none : {A : Type 0} (d : A ⊎ ¬ A) (w : ℕ) → ¬ A → share d w ≡ 0
share_none (inl a) w h = absurd (h a)
share_none (inr none) w h = refl

share_mono : {A B : Type 0} (d : A ⊎ ¬ A) (e : B ⊎ ¬ B) (w : ℕ) → (A → B) → share d w ≤ share e w
share_mono (inl a) e w f = omega (arith, share_all e w (f a))
share_mono (inr none) e w f = omega arith

-- a member's weight, if it is among the signers
abbrev held : (ℕ → ℕ) → List ℕ → ℕ → ℕ
held weight signers m = share (find m signers) (weight m)

-- distinct signers weigh no more than their weights summed over all the members
total_held : (w : ℕ → ℕ) (all s : List ℕ) → Distinct s → ((m : ℕ) → m ∈ s → m ∈ all) → total w s ≤ total (held w s) all
total_held w all [] distinct within = omega arith
total_held w all (x ∷ s) distinct within =
    let rest : total w s ≤ total (held w s) all = total_held w all s distinct.1 (λ m i. within m (inr i)) in
    let more : held w s x + w x ≤ held w (x ∷ s) x =
    omega (arith, share_none (find x s) (w x) distinct.0, share_all (find x (x ∷ s)) (w x) (inl refl)) in
    omega (
      arith,
      total_more (held w s) (held w (x ∷ s)) (λ m. share_mono (find m s) (find m (x ∷ s)) (w m) inr) x (w x) more all (within x (inl refl)),
    )

meet_at : {A B : Type 0} (d : A ⊎ ¬ A) (e : B ⊎ ¬ B) (h : Bool) (w : ℕ) → (T h × A × B) ⊎ (share d w + share e w ≤ w + cond h 0 w)
meet_at (inl a) (inl b) true w = inl (tt, a, b)
meet_at (inl a) (inl b) false w = inr (omega arith)
meet_at (inl a) (inr none) h w = inr (omega arith)
meet_at (inr none) (inl b) h w = inr (omega arith)
meet_at (inr none) (inr none') h w = inr (omega arith)

-- two lists share an honest member, or together weigh no more than everybody and the dishonest once more
meet : (w : ℕ → ℕ) (honest : ℕ → Bool) (s t all : List ℕ) →
    ((m : ℕ) × T (honest m) × (m ∈ s) × (m ∈ t))
    ⊎ (total (held w s) all + total (held w t) all ≤ total w all + total (λ m. cond (honest m) 0 (w m)) all)
meet w honest s t [] = inr (omega arith)
meet w honest s t (x ∷ all) =
    elim (meet_at (find x s) (find x t) (honest x) (w x)) [
      | inl k ↦ inl (x, k.0, k.1, k.2)
      | inr here ↦ elim (meet w honest s t all) [ inl found ↦ inl found | inr rest ↦ inr (omega arith) ]
    ]

pub quorums_meet_lem : QuorumsMeet
quorums_meet_lem c few s t qs qt =
    let all = up_to c.members in
    let from_s = total_held c.weight all s qs.distinct qs.are_members in
    let from_t = total_held c.weight all t qt.distinct qt.are_members in
    elim (meet c.weight c.honest s t all) [ inl k ↦ k | inr heavy ↦ absurd (omega arith) ]
