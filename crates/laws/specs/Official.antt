-- What moves the chain, that is the round, the lock, the highest certificate and the last committed block: certificates that are regular or
-- endorsed, and no others.
use Rattle.std.specs.Prelude.{◌≡◌, ℕ, ◌<◌, ◌≤◌, true, List, Some, None, Err, Option, slice_set}
use Rattle.attest.specs.declared.attestor.Attestor.{Ghosts}
use Rattle.coin.specs.declared.Coin.{Ghosts as CoinGhosts}
use Rattle.blocks.specs.declared.rank.Kind.TheVariants.{Regular, Fallback}
use Rattle.blocks.specs.declared.statement.Statement.{Statement}
use Rattle.table.specs.declared.held.Held.{Held}
use Rattle.wire.specs.declared.form.Form.{Form}
use Rattle.wire.specs.Messages.{Text, proposal, vote, timeout, timeout_certificate, certificate, share, coin_certificate, read_message}
use Rattle.member.specs.declared.state.Member.{Member}
use Rattle.member.specs.declared.types.Refusal.{Refusal}
use Rattle.member.specs.Deliver.{of_fallback}
use Rattle.member.specs.Exit.{place_of}
use Rattle.member.specs.See.{see, unendorsed}
use Rattle.member.specs.States.{Lent, Left, row_of, winner_of}
use Rattle.member.specs.Words.{refusal_number}
use Rattle.laws.specs.Calls.{Call, timer, propose, deliver, after}

-- the statement of the certificate in a message, or of the vote
abbrev pub carried : Text → Option Statement
carried (proposal b c) = Some c.statement
carried (vote v) = Some v.statement
carried (timeout t) = Some t.certificate.statement
carried (timeout_certificate t) = None
carried (certificate c) = Some c.statement
carried (share s) = None
carried (coin_certificate t) = None

abbrev pub carried_in : Option Text → Option Statement
carried_in None = None
carried_in (Some t) = carried t

abbrev pub carried_by : Form → Call → Option Statement
carried_by form timer = None
carried_by form (propose payload) = None
carried_by form (deliver sheet message) = carried_in (read_message form message)

-- a certificate that a call may see: what the message carries, if it is regular, or fallback of an earlier view and by the winner noted for
-- that view; and where the view ends, the one that the row of the winner, now noted, held
pub data Official (m m' : Member) (carries : Option Statement) (s : Statement) : Type 0 where
  regular : carries ≡ Some s → s.kind ≡ Regular → Official m m' carries s
  endorsed : carries ≡ Some s → s.kind ≡ Fallback → s.view.0 < m.phase.view.0 → winner_of m s.view.0 ≡ Some s.proposer
      → Official m m' carries s
  of_winner : (w : ℕ) → carries ≡ None → (row_of m.rows w).certificate ≡ Some s → m'.winners ≡ slice_set m.winners m.phase.view.0 (Some w)
      → Official m m' carries s

-- the chain is as before, or such a certificate was seen
pub data ChainLeft (m : Member) (table : List Held) (carries : Option Statement) (m' : Member) : Type 0 where
  as_before : m'.chain ≡ m.chain → ChainLeft m table carries m'
  seen : (s : Statement) → Official m m' carries s → m'.chain ≡ see m.chain table s (place_of table m.held s)
      → ChainLeft m table carries m'

-- refused with this number or a lower one
pub record RefusedBy {S : Type 0} (number : ℕ) (left : Left S) : Type 0 where
  pub refusal : Refusal
  pub result : left.result ≡ Err refusal
  pub numbered : refusal_number refusal ≤ number

pub record OnlyOfficial (S C : Type 0) (g : Ghosts S) (k : CoinGhosts C) : Type 0 where
  pub chains : (coin : C) (form : Form) (m : Member) (l : Lent S) (call : Call)
      → ChainLeft m l.table (carried_by form call) (after g k coin form m l call).member
  -- a fallback certificate of this view, or a vote for one, leaves the chain as it was
  pub this_view : (coin : C) (form : Form) (m : Member) (l : Lent S) (call : Call) (s : Statement)
      → carried_by form call ≡ Some s → of_fallback m s ≡ true
      → (after g k coin form m l call).member.chain ≡ m.chain
  -- an unendorsed one is refused with 8, unless a rule before that one is broken
  pub refused : (coin : C) (form : Form) (m : Member) (l : Lent S) (call : Call) (s : Statement)
      → carried_by form call ≡ Some s → unendorsed m s ≡ true
      → RefusedBy 8 (after g k coin form m l call)
