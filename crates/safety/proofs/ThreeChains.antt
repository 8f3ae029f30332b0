-- Three-chains: three blocks with certificates, each the parent of the next, of one view. Their voters are locked on the first.
use Rattle.std.proofs.Common.{◌≡◌, ◌<◌, ◌≤◌, sym, ◌∙◌, inl, inr, arith}
use Rattle.safety.specs.Ranks.{◌≼◌, rank}
use Rattle.safety.specs.Runs.{Run, Fallback, grandparent}
use Rattle.safety.specs.Certificates.{Certificate, Certified, Official}
use Rattle.safety.specs.Rules.{Lawful, Opening, Continuing, VotesInOrder}
use Rattle.safety.proofs.Chains.{fallback_certificate, same_chain}
use Rattle.safety.proofs.Ranks.{≼_refl, ≼_trans}
use Rattle.safety.proofs.Unique.{one_fallback_per_height_lem}
use Rattle.safety.proofs.Voters.{votable}
use Rattle.std.proofs.lemmas.Bool.{cases_lt}

module _ {Block : Type 0} (r : Run Block) where
  open r use {parent, view}

  -- given by the last of the three
  pub record ThreeChain (last : Block) : Type 0 where
    pub official : Official r last
    pub certificate_last : Certificate r last
    pub certificate_mid : Certificate r (parent last)
    pub certificate_first : Certificate r (grandparent r last)
    pub view_last : view last ≡ view (grandparent r last)
    pub view_mid : view (parent last) ≡ view (grandparent r last)

module _ {Block : Type 0} (r : Run Block) (lawful : Lawful r) {last : Block} (three : ThreeChain r last) where
  open r use {parent, round, view, height, proposer}

  -- a certified block of the last block's fallback chain that ranks no lower than the second has a parent that ranks no lower than the first
  exit_covers : Continuing r last → (s : Block) → Certified r s → Fallback r s → view s ≡ view last → proposer s ≡ proposer last →
      rank r (parent last) ≼ rank r s → rank r (grandparent r last) ≼ rank r (parent s)
  exit_covers high s cs fs v p covers =
      let k = (votable r lawful three.certificate_last).continues high in
      let mid_above = (votable r lawful three.certificate_mid).round_follows in
      let view_mid = three.view_mid in
      let rounds : round (parent last) ≤ round s = covers.rounds (omega arith) (omega arith) in
      elim (cases_lt (height (parent last)) (height s)) [
        | inl higher ↦
            let w = votable r lawful (fallback_certificate r lawful cs fs) in
            let t = w.continues (omega arith) in
            omega arith
        | inr lower ↦
            let same_view = k.same_view ∙ sym v in
            let same_proposer = k.same_proposer ∙ sym p in
            let level = (same_chain r lawful k.certified cs fs same_view same_proposer lower).1 in
            let e : parent last ≡ s =
            one_fallback_per_height_lem Block r lawful (parent last) s k.certified cs (omega arith) fs same_view same_proposer (omega arith) in
            rw (← e) (≼_refl _)
      ]

  -- in a later view, a voter for the last block votes only for blocks whose parent ranks no lower than the first
  pub locked : {c : Block} → VotesInOrder r last c → Opening r c → view last < view c → rank r (grandparent r last) ≼ rank r (parent c)
  locked o opening later =
      elim (cases_lt 1 (height last)) [
        | inl high ↦
            let x = o.exit_lock_kept high (three.official.by_winner (omega arith)) opening later in
            ≼_trans (exit_covers high x.seen x.certified x.fallback x.same_view x.same_proposer x.covers_parent) x.lock_kept
        | inr low ↦ o.lock_kept low opening
      ]
