-- What the votes of honest members say of certified blocks.
use Rattle.std.proofs.Common.{◌≡◌, ◌<◌, ◌⊎◌, ap, ◌∙◌, inl, inr, arith}
use Rattle.safety.specs.Runs.{Run, Regular}
use Rattle.safety.specs.Certificates.{Certificate}
use Rattle.safety.specs.Rules.{Lawful, Votable, VotesInOrder}
use Rattle.safety.specs.Theorems.{CommonVoter}
use Rattle.safety.proofs.Lists.{in_order}
use Rattle.safety.proofs.Quorums.{quorums_meet_lem}

pub common_voter_lem : (Block : Type 0) → CommonVoter Block Lawful
common_voter_lem Block r lawful x y cx cy =
    let k = quorums_meet_lem r.committee lawful.few_faults cx.signers cy.signers cx.quorum cy.quorum in
    (k.0, k.1, cx.voted k.0 k.2 k.1, cy.voted k.0 k.3 k.1)

module _ {Block : Type 0} (r : Run Block) (lawful : Lawful r) where
  open r use {genesis, round, view, height}

  -- two blocks with certificates are one, or some honest member voted for one after the other
  pub voted_in_order : {x y : Block} → Certificate r x → Certificate r y → (x ≡ y) ⊎ (VotesInOrder r x y ⊎ VotesInOrder r y x)
  voted_in_order {x} {y} cx cy =
      let k = common_voter_lem Block r lawful x y cx cy in
      elim (in_order (r.votes k.0) x y k.2 k.3) [
        | inl e ↦ inl e
        | inr (inl b) ↦ inr (inl ((lawful.rules k.0 k.1).ordered x y b))
        | inr (inr b) ↦ inr (inr ((lawful.rules k.0 k.1).ordered y x b))
      ]

  pub votable : {x : Block} → Certificate r x → Votable r x
  votable {x} q = let k = common_voter_lem Block r lawful x x q q in (lawful.rules k.0 k.1).votable x k.2

  pub round_positive : {x : Block} → Certificate r x → 0 < round x
  round_positive q = omega (arith, (votable q).round_follows)

  pub genesis_round : {x : Block} → x ≡ genesis → round x ≡ 0
  genesis_round e = ap round e ∙ lawful.start.round_0

  pub genesis_regular : {x : Block} → x ≡ genesis → Regular r x
  genesis_regular e = ap height e ∙ lawful.start.regular

  pub genesis_view : {x : Block} → x ≡ genesis → view x ≡ 0
  genesis_view e = ap view e ∙ lawful.start.view_0
