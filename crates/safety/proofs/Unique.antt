-- One certified regular block to a round, and one certified fallback block to a height of a chain.
use Rattle.std.proofs.Common.{sym, ◌∙◌, inl, inr, arith}
use Rattle.safety.specs.Rules.{Lawful}
use Rattle.safety.specs.Theorems.{OneRegularPerRound, OneFallbackPerHeight}
use Rattle.safety.proofs.Voters.{voted_in_order, round_positive, genesis_round, genesis_regular}

pub one_regular_per_round_lem : (Block : Type 0) → OneRegularPerRound Block Lawful
one_regular_per_round_lem Block r lawful x y (inl gx) (inl gy) rx ry same = gx ∙ sym gy
one_regular_per_round_lem Block r lawful x y (inl gx) (inr qy) rx ry same =
    absurd (omega (arith, genesis_round r lawful gx, round_positive r lawful qy))
one_regular_per_round_lem Block r lawful x y (inr qx) (inl gy) rx ry same =
    absurd (omega (arith, genesis_round r lawful gy, round_positive r lawful qx))
one_regular_per_round_lem Block r lawful x y (inr qx) (inr qy) rx ry same =
    elim (voted_in_order r lawful qx qy) [
      | inl e ↦ e
      | inr (inl o) ↦ absurd (omega arith)
      | inr (inr o) ↦ absurd (omega arith)
    ]

pub one_fallback_per_height_lem : (Block : Type 0) → OneFallbackPerHeight Block Lawful
one_fallback_per_height_lem Block r lawful x y (inl gx) cy fx fy v p h = absurd (omega (arith, genesis_regular r lawful gx))
one_fallback_per_height_lem Block r lawful x y (inr qx) (inl gy) fx fy v p h = absurd (omega (arith, genesis_regular r lawful gy))
one_fallback_per_height_lem Block r lawful x y (inr qx) (inr qy) fx fy v p h =
    elim (voted_in_order r lawful qx qy) [
      | inl e ↦ e
      | inr (inl o) ↦ absurd (omega arith)
      | inr (inr o) ↦ absurd (omega arith)
    ]
