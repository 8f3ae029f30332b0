-- The equations between what a call leaves and what it was lent.
use Rattle.std.specs.Prelude.{◌≡◌, ℕ, List, Result}
use Rattle.member.specs.declared.types.Answer.{Answer}
use Rattle.member.specs.declared.types.Refusal.{Refusal}
use Rattle.member.specs.declared.state.Member.{Member}
use Rattle.member.specs.States.{Left}

-- a call that is lent all but the attestor and the outgoing buffer to read only
pub record Leaves {S : Type 0} (left : Left S) (r : Result Answer Refusal) (m : Member) (a : S) (o : List ℕ) : Type 0 where
  pub result : r ≡ left.result
  pub member : m ≡ left.member
  pub attestor : a ≡ left.lent.attestor
  pub out : o ≡ left.lent.out
