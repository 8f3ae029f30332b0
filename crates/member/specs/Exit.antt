-- Enter: a member goes to its view's fallback. Exit: the view's coin has fallen, and the next view begins.
use Rattle.std.specs.Prelude.{ℕ, ◌+◌, max, Bool, false, cond, List, Some, None, Option, slice_set}
use Rattle.blocks.specs.declared.statement.Statement.{Statement}
use Rattle.blocks.specs.Ranks.{view, round}
use Rattle.table.specs.declared.held.Held.{Held}
use Rattle.table.specs.Places.{lookup}
use Rattle.wire.specs.declared.form.Form.{Form}
use Rattle.member.specs.declared.types.Stage.TheVariants.{Steady, InFallback}
use Rattle.member.specs.declared.state.Chain.{Chain}
use Rattle.member.specs.declared.state.Member.{Member}
use Rattle.member.specs.declared.state.Phase.{Phase}
use Rattle.member.specs.declared.rows.Row.{Row}
use Rattle.member.specs.Words.{is_in_fallback}
use Rattle.member.specs.States.{row_of, empty_rows}
use Rattle.member.specs.See.{see, see_shelf, forks, or_last}
use Rattle.member.specs.Shelf.{shelved}

abbrev pub entered : Phase → Phase
entered p = record { view = p.view; stage = InFallback; voted = p.voted }

-- the place of a block that is held
abbrev pub place_of : List Held → ℕ → Statement → ℕ
place_of table held s = or_last (lookup table held s.id) 0

-- in fallback the voted round becomes the greater of itself and the winner's row's; then the next view begins, steady
abbrev pub exit_phase : Phase → Row → Phase
exit_phase p r = record {
  view = view (p.view.0 + 1);
  stage = Steady;
  voted = cond (is_in_fallback p.stage) (round (max p.voted.0 r.round.0)) p.voted;
}

-- the certificate that the winner's row held is seen, if any
abbrev pub exit_chain : Chain → List Held → ℕ → Option Statement → Chain
exit_chain c table held None = c
exit_chain c table held (Some s) = see c table s (place_of table held s)

abbrev pub exit_shelf : Form → List (List ℕ) → Chain → ℕ → Option Statement → List (List ℕ)
exit_shelf form shelf c w None = shelf
exit_shelf form shelf c w (Some s) = see_shelf shelf c s (shelved form shelf w s)

abbrev pub exit_forks : Chain → List Held → ℕ → Option Statement → Bool
exit_forks c table held None = false
exit_forks c table held (Some s) = forks c table (place_of table held s)

-- the chain at exit; none is a fork
abbrev pub exit_seeing : Chain → List Held → ℕ → Option Statement → Option Chain
exit_seeing c table held certificate = cond (exit_forks c table held certificate) None (Some (exit_chain c table held certificate))

-- the winner is noted, the voted round raised and the next view begun; last, the rows are emptied
abbrev pub exit_to : Member → Chain → ℕ → Member
exit_to m chain w = record {
  site = m.site;
  held = m.held;
  chain = chain;
  phase = exit_phase m.phase (row_of m.rows w);
  proposed = m.proposed;
  winners = slice_set m.winners m.phase.view.0 (Some w);
  rows = empty_rows;
}

-- exit by a winner: the certificate that its row held is seen
abbrev pub exit : Member → List Held → ℕ → Member
exit m table w = exit_to m (exit_chain m.chain table m.held (row_of m.rows w).certificate) w
