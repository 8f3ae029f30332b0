-- The cases of the main induction, over a three-chain: an official block that ranks no lower than the first of the three extends it, or
-- has a parent that ranks no lower.
--
use Rattle.std.proofs.Common.{◌≡◌, ◌+◌, ◌-◌, ◌<◌, ◌≤◌, ◌⊎◌, sym, refl, ap, ◌∙◌, subst, inl, inr, arith}
use Rattle.safety.specs.Ranks.{◌≼◌, rank}
use Rattle.safety.specs.Runs.{Run, Regular, Fallback, Extends, itself, by_parent, grandparent}
use Rattle.safety.specs.Certificates.{Certificate, Official}
use Rattle.safety.specs.Rules.{Lawful}
use Rattle.safety.proofs.Chains.{parent_official, fallback_certificate, same_chain, AncestorAt, ancestor_at, extends_trans}
use Rattle.safety.proofs.ThreeChains.{ThreeChain, locked}
use Rattle.safety.proofs.Ranks.{earlier_view}
use Rattle.safety.proofs.Unique.{one_regular_per_round_lem}
use Rattle.safety.proofs.Voters.{voted_in_order, votable}
use Rattle.std.proofs.lemmas.Bool.{cases_lt}

module _ {Block : Type 0} (r : Run Block) (lawful : Lawful r) where
  open r use {parent, round, view, height, proposer, winner}

  -- official fallback blocks of one view are of one chain, the winner's
  official_chain : {x y : Block} → Official r x → Official r y → Fallback r x → Fallback r y → view x ≡ view y → height y ≤ height x →
      Extends r x y × (round y + height x ≡ round x + height y)
  official_chain ox oy fx fy v le =
      same_chain r lawful ox.certified oy.certified fy v (ox.by_winner fx ∙ ap winner v ∙ sym (oy.by_winner fy)) le

  -- a regular block never stands over a fallback block of its own view
  parent_regular : {x : Block} → Certificate r x → Regular r x → view (parent x) ≡ view x → Regular r (parent x)
  parent_regular {x} q reg v =
      let o = (votable r lawful q).opens (omega arith) in
      elim (cases_lt 0 (height (parent x))) [ inl f ↦ absurd (omega (arith, o.fallback_is_past f)) | inr none ↦ omega arith ]

module _ {Block : Type 0} (r : Run Block) (lawful : Lawful r) {last : Block} (three : ThreeChain r last) {c : Block} (oc : Official r c) (qc : Certificate r c) where
  open r use {parent, round, view, height, proposer, winner}

  -- a voter for the last of the three keeps its lock in later views
  later_view : view last < view c → rank r (grandparent r last) ≼ rank r (parent c)
  later_view later =
      elim (cases_lt 1 (height c)) [
        | inl high ↦ let k = (votable r lawful qc).continues high in omega arith
        | inr low ↦ elim (voted_in_order r lawful three.certificate_last qc) [
          | inl e ↦ absurd (omega (arith, ap view e))
          | inr (inl o) ↦ locked r lawful three o low later
          | inr (inr o) ↦ absurd (omega arith)
        ]
      ]

  -- the ancestor at the first block's round is that block: a fallback block would be of an earlier view, after which its voters vote only
  -- for higher rounds
  ancestor_is_first : Regular r c → view c ≡ view (grandparent r last) → Regular r (grandparent r last) →
      (a : AncestorAt r lawful c (round (grandparent r last))) → Extends r c (grandparent r last)
  ancestor_is_first reg v first_regular a =
      elim (cases_lt 0 (height a.block)) [
        | inr none ↦
            subst (Extends r c)
            (one_regular_per_round_lem Block r lawful a.block _ a.official.certified (inr three.certificate_first) (omega arith) first_regular a.at)
            a.under
        | inl f ↦
            let earlier : view a.block < view c = earlier_view a.below (omega arith) in
            elim (voted_in_order r lawful (fallback_certificate r lawful a.official.certified f) three.certificate_first) [
              | inl e ↦ absurd (omega (arith, ap height e))
              | inr (inl o) ↦ absurd (omega arith)
              | inr (inr o) ↦ absurd (omega arith)
            ]
      ]

  regular_in_view : Regular r c → view c ≡ view (grandparent r last) → rank r (grandparent r last) ≼ rank r c → Extends r c (grandparent r last)
  regular_in_view reg v le =
      let first = grandparent r last in
      let kinds = le.kinds (sym v) in
      let rounds = le.rounds (sym v) (omega arith) in
      ancestor_is_first reg v (omega arith) (ancestor_at r lawful (round c - round first) (round first) oc (omega arith))

  -- the three end in the winner's chain, and what is official and fallback in their view is of that chain too
  over_fallback : Fallback r last → Fallback r c → view c ≡ view (grandparent r last) → rank r (grandparent r last) ≼ rank r c →
      Extends r c (grandparent r last)
  over_fallback f fc v le =
      let vl = three.view_last in
      let vm = three.view_mid in
      let om = parent_official r lawful three.official in
      let of = parent_official r lawful om in
      elim (cases_lt 1 (height last)) [
        | inr low ↦ extends_trans r (official_chain r lawful oc three.official fc f (omega arith) (omega arith)).0 (by_parent (by_parent (itself refl)))
        | inl high ↦
            let k = (votable r lawful three.certificate_last).continues high in
            let mid_below = k.one_below in
            elim (cases_lt 1 (height (parent last))) [
              | inr low ↦ extends_trans r (official_chain r lawful oc om fc (omega arith) (omega arith) (omega arith)).0 (by_parent (itself refl))
              | inl high' ↦
                  let k' = (votable r lawful three.certificate_mid).continues high' in
                  let first_below = k'.one_below in
                  elim (cases_lt (height c) (height (grandparent r last))) [
                    | inr le' ↦ (official_chain r lawful oc of fc (omega arith) v le').0
                    | inl lower ↦ absurd (
                        omega (arith, (official_chain r lawful of oc (omega arith) fc (sym v) (omega arith)).1, le.rounds (sym v) (omega arith))
                        )
                  ]
            ]
      ]

  -- the three are regular, and a voter for the last of them keeps its lock in the fallback of the view
  over_regular : Regular r last → Fallback r c → view c ≡ view (grandparent r last) → rank r (grandparent r last) ≼ rank r (parent c)
  over_regular reg fc v =
      let vl = three.view_last in
      let vm = three.view_mid in
      let mid_regular = parent_regular r lawful three.certificate_last reg (omega arith) in
      let first_regular = parent_regular r lawful three.certificate_mid mid_regular (omega arith) in
      elim (cases_lt 1 (height c)) [
        | inl high ↦ let k = (votable r lawful qc).continues high in omega arith
        | inr low ↦ elim (voted_in_order r lawful three.certificate_last qc) [
          | inl e ↦ absurd (omega (arith, ap height e))
          | inr (inl o) ↦ o.lock_kept (omega arith) low
          | inr (inr o) ↦ absurd (omega arith)
        ]
      ]

  pub extends_or_climbs : rank r (grandparent r last) ≼ rank r c →
      (rank r (grandparent r last) ≼ rank r (parent c)) ⊎ Extends r c (grandparent r last)
  extends_or_climbs le =
      let vl = three.view_last in
      elim (cases_lt (view last) (view c)) [
        | inl later ↦ inl (later_view later)
        | inr no_later ↦
            let v : view c ≡ view (grandparent r last) = omega arith in
            elim (cases_lt 0 (height c)) [
              | inr none ↦ inr (regular_in_view (omega arith) v le)
              | inl fc ↦ elim (cases_lt 0 (height last)) [
                | inl f ↦ inr (over_fallback f fc v le)
                | inr none ↦ inl (over_regular (omega arith) fc v)
              ]
            ]
      ]
