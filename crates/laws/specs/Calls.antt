-- The calls of a member, and any list of them.
use Rattle.std.specs.Prelude.{ℕ, List, [], ◌∷◌}
use Rattle.attest.specs.declared.attestor.Attestor.{Ghosts}
use Rattle.coin.specs.declared.Coin.{Ghosts as CoinGhosts}
use Rattle.wire.specs.declared.form.Form.{Form}
use Rattle.member.specs.declared.state.Member.{Member}
use Rattle.member.specs.States.{Lent, Left}
use Rattle.member.specs.Timer.{timer as timer_leaves}
use Rattle.member.specs.Propose.{propose as propose_leaves}
use Rattle.member.specs.Deliver.{deliver as deliver_leaves}

pub data Call : Type 0 where
  timer : Call
  -- a payload
  propose : List ℕ → Call
  -- the dealer's sheet and a message
  deliver : List ℕ → List ℕ → Call

-- what a call leaves of a member and of what it is lent
abbrev pub after : {S C : Type 0} → Ghosts S → CoinGhosts C → C → Form → Member → Lent S → Call → Left S
after g k coin form m l timer = timer_leaves g form m l
after g k coin form m l (propose payload) = propose_leaves form m l payload
after g k coin form m l (deliver sheet message) = deliver_leaves g k coin form m l sheet message

-- a call and what it is lent, whatever that is
pub record Step (S : Type 0) : Type 0 where
  pub lent : Lent S
  pub call : Call

-- the member after these steps
abbrev pub member_after : {S C : Type 0} → Ghosts S → CoinGhosts C → C → Form → Member → List (Step S) → Member
member_after g k coin form m [] = m
member_after g k coin form m (s ∷ ss) = member_after g k coin form (after g k coin form m s.lent s.call).member ss
