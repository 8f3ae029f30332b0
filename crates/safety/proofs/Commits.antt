-- A directly committed block is final, so that all committed blocks are on one chain.
use Rattle.std.proofs.Common.{◌≡◌, ℕ, zero, suc, ◌≤◌, ◌⊎◌, sym, subst, inl, inr, arith}
use Rattle.safety.specs.Ranks.{◌≼◌, rank}
use Rattle.safety.specs.Runs.{Run, Extends, by_parent, grandparent}
use Rattle.safety.specs.Certificates.{Certificate, Official, DirectlyCommitted, Committed}
use Rattle.safety.specs.Rules.{Lawful}
use Rattle.safety.specs.Theorems.{CommitsAreFinal, OneChain, OneCommitPerRound}
use Rattle.safety.proofs.Chains.{parent_official, certificate_above, extends_genesis, extends_trans, one_line, extends_round, extends_official}
use Rattle.safety.proofs.ThreeChains.{ThreeChain}
use Rattle.safety.proofs.Ranks.{≼-total}
use Rattle.safety.proofs.Cases.{extends_or_climbs}
use Rattle.safety.proofs.Voters.{votable, round_positive, genesis_round, genesis_regular, genesis_view}

module _ {Block : Type 0} (r : Run Block) (lawful : Lawful r) where
  open r use {parent, round, view}

  -- what ranks no lower than a block with a certificate is not genesis
  above_certificate : {b c : Block} → Certificate r b → Official r c → rank r b ≼ rank r c → Certificate r c
  above_certificate q oc le =
      elim oc.certified [
        | inr q' ↦ q'
        | inl g ↦
            let v = genesis_view r lawful g in
            let h = genesis_regular r lawful g in
            let k = le.kinds (omega arith) in
            absurd (omega (arith, le.rounds (omega arith) (omega arith), genesis_round r lawful g, round_positive r lawful q))
      ]

  -- by induction on a bound of the round of c
  extends_first : {last : Block} → ThreeChain r last → (n : ℕ) {c : Block} → round c ≤ n → Official r c → rank r (grandparent r last) ≼ rank r c →
      Extends r c (grandparent r last)
  extends_first three zero {c} bound oc le =
      absurd (omega (arith, round_positive r lawful (above_certificate three.certificate_first oc le)))
  extends_first three (suc n) {c} bound oc le =
      let q = above_certificate three.certificate_first oc le in
      elim (extends_or_climbs r lawful three oc q le) [
        | inl climbs ↦ by_parent (extends_first three n (omega (arith, (votable r lawful q).round_follows)) (parent_official r lawful oc) climbs)
        | inr extends ↦ extends
      ]

  first_is_final : (last : Block) → Official r last → view last ≡ view (grandparent r last) → view (parent last) ≡ view (grandparent r last) →
      {c : Block} → Official r c → rank r (grandparent r last) ≼ rank r c → Extends r c (grandparent r last)
  first_is_final last o vl vm {c} oc le =
      let om = parent_official r lawful o in
      let of = parent_official r lawful om in
      elim of.certified [
        | inl g ↦ subst (Extends r c) (sym g) (extends_genesis r lawful oc)
        | inr q ↦
            let qm = certificate_above r lawful om q in
            let three : ThreeChain r last = record {
              official = o;
              certificate_last = certificate_above r lawful o qm;
              certificate_mid = qm;
              certificate_first = q;
              view_last = vl;
              view_mid = vm;
            } in
            extends_first three (round c) (omega arith) oc le
      ]

pub commits_are_final_lem : (Block : Type 0) → CommitsAreFinal Block Lawful
commits_are_final_lem Block r lawful b c k oc =
    subst (λ x. r.view k.last ≡ r.view x → r.view (r.parent k.last) ≡ r.view x → rank r x ≼ rank r c → Extends r c x)
    k.grandparent
    (λ vl vm le. first_is_final r lawful k.last k.official vl vm oc le)
    k.view_last
    k.view_between

committed_official : (Block : Type 0) (r : Run Block) → Lawful r → {b : Block} → DirectlyCommitted r b → Official r b
committed_official Block r lawful k =
    subst (Official r) k.grandparent (parent_official r lawful (parent_official r lawful k.official))

direct_chain : (Block : Type 0) (r : Run Block) → Lawful r → {b c : Block} → DirectlyCommitted r b → DirectlyCommitted r c →
    Extends r b c ⊎ Extends r c b
direct_chain Block r lawful {b} {c} kb kc =
    elim (≼-total (rank r b) (rank r c)) [
      | inl le ↦ inr (commits_are_final_lem Block r lawful b c kb (committed_official Block r lawful kc) le)
      | inr le ↦ inl (commits_are_final_lem Block r lawful c b kc (committed_official Block r lawful kb) le)
    ]

pub one_chain_lem : (Block : Type 0) → OneChain Block Lawful
one_chain_lem Block r lawful b c kb kc =
    elim (direct_chain Block r lawful kb.direct kc.direct) [
      | inl e ↦ one_line r kb.under (extends_trans r e kc.under)
      | inr e ↦ one_line r (extends_trans r e kb.under) kc.under
    ]

pub one_commit_per_round_lem : (Block : Type 0) → OneCommitPerRound Block Lawful
one_commit_per_round_lem Block r lawful b c kb kc same =
    elim (one_chain_lem Block r lawful b c kb kc) [
      | inl e ↦ sym ((extends_round r lawful (official kb) e).1 (sym same))
      | inr e ↦ (extends_round r lawful (official kc) e).1 same
    ]
  where
    official : {x : Block} → Committed r x → Official r x
    official k = extends_official r lawful (committed_official Block r lawful k.direct) k.under
