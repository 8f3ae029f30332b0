-- Official blocks and their ancestors.
use Rattle.std.proofs.Common.{◌≡◌, ℕ, zero, suc, ◌+◌, ◌-◌, ◌<◌, ◌≤◌, ◌⊎◌, sym, refl, ap, ◌∙◌, subst, inl, inr, arith}
use Rattle.safety.specs.Ranks.{◌≼◌, rank}
use Rattle.safety.specs.Runs.{Run, Fallback, Extends, itself, by_parent}
use Rattle.safety.specs.Certificates.{Certificate, Certified, Official}
use Rattle.safety.specs.Rules.{Lawful, StandsInChain}
use Rattle.safety.proofs.Ranks.{≼_refl, ≼_trans}
use Rattle.safety.proofs.Unique.{one_fallback_per_height_lem}
use Rattle.safety.proofs.Voters.{votable, round_positive, genesis_round, genesis_regular}
use Rattle.std.proofs.lemmas.Bool.{cases_lt}

module _ {Block : Type 0} (r : Run Block) where
  pub extends_trans : {a b c : Block} → Extends r a b → Extends r b c → Extends r a c
  extends_trans {c = c} (itself e) k = subst (λ x. Extends r x c) (sym e) k
  extends_trans (by_parent d) k = by_parent (extends_trans d k)

  -- of two ancestors of one block, one extends the other
  pub one_line : {a b c : Block} → Extends r a b → Extends r a c → Extends r b c ⊎ Extends r c b
  one_line {c = c} (itself e) k = inl (subst (λ x. Extends r x c) e k)
  one_line {b = b} (by_parent j) (itself e) = inr (subst (λ x. Extends r x b) e (by_parent j))
  one_line (by_parent j) (by_parent k) = one_line j k

module _ {Block : Type 0} (r : Run Block) (lawful : Lawful r) where
  open r use {genesis, parent, round, view, height, proposer, winner}

  genesis_parent : {x : Block} → x ≡ genesis → parent x ≡ genesis
  genesis_parent e = ap parent e ∙ lawful.start.own_parent

  pub parent_official : {x : Block} → Official r x → Official r (parent x)
  parent_official {x} o =
      elim o.certified [
        | inl g ↦ let p = genesis_parent g in record {
          certified = inl p;
          by_winner = λ f. absurd (omega (arith, genesis_regular r lawful p));
        }
        | inr q ↦ elim (cases_lt 1 (height x)) [
          | inl high ↦ let k = (votable r lawful q).continues high in record {
            certified = k.certified;
            by_winner = λ f. k.same_proposer ∙ o.by_winner (omega arith) ∙ ap winner (sym k.same_view);
          }
          | inr low ↦ ((votable r lawful q).opens low).official
        ]
      ]

  -- a certified fallback block has a certificate, for genesis is regular
  pub fallback_certificate : {x : Block} → Certified r x → Fallback r x → Certificate r x
  fallback_certificate (inl g) f = absurd (omega (arith, genesis_regular r lawful g))
  fallback_certificate (inr q) f = q

  -- an official block has a certificate if its parent has one, for the parent of genesis has none
  pub certificate_above : {x : Block} → Official r x → Certificate r (parent x) → Certificate r x
  certificate_above o q =
      elim o.certified [
        | inl g ↦ absurd (omega (arith, genesis_round r lawful (genesis_parent g), round_positive r lawful q))
        | inr q' ↦ q'
      ]

  pub parent_ranks_below : {x : Block} → Certificate r x → rank r (parent x) ≼ rank r x
  parent_ranks_below {x} q =
      let w = votable r lawful q in
      elim (cases_lt 1 (height x)) [
        | inl high ↦ let k = w.continues high in omega arith
        | inr low ↦ let k = w.opens low in
            elim (cases_lt 0 (height (parent x))) [ inl f ↦ omega arith | inr none ↦ omega arith ]
      ]

  -- an official ancestor of a given round
  pub record AncestorAt (x : Block) (k : ℕ) : Type 0 where
    pub block : Block
    pub official : Official r block
    pub under : Extends r x block
    pub at : round block ≡ k
    pub below : rank r block ≼ rank r x

  pub ancestor_at : (d k : ℕ) {x : Block} → Official r x → round x ≡ d + k → AncestorAt x k
  ancestor_at zero k {x} o e =
      record { block = x; official = o; under = itself refl; at = omega arith; below = ≼_refl (rank r x) }
  ancestor_at (suc d) k {x} o e =
      elim o.certified [
        | inl g ↦ absurd (omega (arith, genesis_round r lawful g))
        | inr q ↦
            let a = ancestor_at d k (parent_official o) (omega (arith, (votable r lawful q).round_follows)) in
            record {
              block = a.block;
              official = a.official;
              under = by_parent a.under;
              at = a.at;
              below = ≼_trans a.below (parent_ranks_below q);
            }
      ]

  pub extends_official : {x y : Block} → Official r x → Extends r x y → Official r y
  extends_official o (itself e) = subst (Official r) e o
  extends_official o (by_parent d) = extends_official (parent_official o) d

  -- an ancestor is of a lower round, or is the block itself
  pub extends_round : {x y : Block} → Official r x → Extends r x y → (round y ≤ round x) × (round y ≡ round x → y ≡ x)
  extends_round {x} {y} o (itself e) = (omega (arith, ap round e), λ same. sym e)
  extends_round {x} {y} o (by_parent d) = go (extends_round (parent_official o) d) o.certified
    where
      go : (round y ≤ round (parent x)) × (round y ≡ round (parent x) → y ≡ parent x) → Certified r x →
          (round y ≤ round x) × (round y ≡ round x → y ≡ x)
      go ih (inl g) =
          let e : parent x ≡ x = genesis_parent g ∙ sym g in
          rw e at ih
      go ih (inr q) = let next = (votable r lawful q).round_follows in (omega arith, λ same. absurd (omega arith))

  pub extends_genesis : {x : Block} → Official r x → Extends r x genesis
  extends_genesis {x} o =
      let a = ancestor_at (round x) 0 o (omega arith) in
      elim a.official.certified [
        | inl g ↦ subst (Extends r x) g a.under
        | inr q ↦ absurd (omega (arith, a.at, round_positive r lawful q))
      ]

  -- the certified block of a given height under a fallback block, in the same chain
  record Link (x : Block) (k : ℕ) : Type 0 where
    block : Block
    certified : Certified r block
    under : Extends r x block
    same_view : view block ≡ view x
    same_proposer : proposer block ≡ proposer x
    at : height block ≡ k
    level : round block + height x ≡ round x + k

  link_over : {x : Block} {k : ℕ} → Certificate r x → StandsInChain r x → Link (parent x) k → Link x k
  link_over q s l = record {
    block = l.block;
    certified = l.certified;
    under = by_parent l.under;
    same_view = l.same_view ∙ s.same_view;
    same_proposer = l.same_proposer ∙ s.same_proposer;
    at = l.at;
    level = omega (arith, l.level, s.one_below, (votable r lawful q).round_follows);
  }

  link : (d k : ℕ) {x : Block} → 0 < k → Certified r x → height x ≡ d + k → Link x k
  link zero k {x} pos c e =
      record { block = x; certified = c; under = itself refl; same_view = refl; same_proposer = refl; at = omega arith; level = omega arith }
  link (suc d) k {x} pos c e =
      let q = fallback_certificate c (omega arith) in
      let s = (votable r lawful q).continues (omega arith) in
      link_over q s (link d k pos s.certified (omega arith))

  -- two blocks of one fallback chain: the higher extends the lower, and their rounds differ as their heights
  pub same_chain : {x y : Block} → Certified r x → Certified r y → Fallback r y → view x ≡ view y → proposer x ≡ proposer y →
      height y ≤ height x → Extends r x y × (round y + height x ≡ round x + height y)
  same_chain {x} {y} cx cy fy v p le =
      let l = link (height x - height y) (height y) fy cx (omega arith) in
      let at = l.at in
      let e : l.block ≡ y =
      one_fallback_per_height_lem Block r lawful l.block y l.certified cy (omega arith) fy (l.same_view ∙ v) (l.same_proposer ∙ p) at in
      (subst (Extends r x) e l.under, omega (arith, l.level, ap round e))
