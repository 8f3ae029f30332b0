-- A member's state and what a call is lent; what changes together is changed as one part.
use Rattle.std.specs.Prelude.{ℕ, ◌-◌, List, replicate, None, Err, Option, Result, slice_index_or, slice_set}
use Rattle.blocks.specs.Ranks.{round}
use Rattle.collect.specs.declared.items.KeptVote.{KeptVote}
use Rattle.collect.specs.declared.items.KeptTimeout.{KeptTimeout}
use Rattle.collect.specs.declared.items.Finished.{Finished}
use Rattle.collect.specs.declared.items.KeptShare.{KeptShare}
use Rattle.table.specs.declared.held.Held.{Held}
use Rattle.member.specs.declared.types.Answer.{Answer}
use Rattle.member.specs.declared.types.Refusal.{Refusal}
use Rattle.member.specs.declared.state.Chain.{Chain}
use Rattle.member.specs.declared.state.Phase.{Phase}
use Rattle.member.specs.declared.state.Proposed.{Proposed}
use Rattle.member.specs.declared.rows.Row.{Row}
use Rattle.member.specs.declared.state.Member.{Member}

-- the places of the four tallies
pub record Tallies : Type 0 where
  pub votes : List (Option KeptVote)
  pub timeouts : List (Option KeptTimeout)
  pub finished : List (Option Finished)
  pub shares : List (Option KeptShare)

-- the memory and the attestor that every call is lent; S is the attestor's type
pub record Lent (S : Type 0) : Type 0 where
  pub attestor : S
  pub tallies : Tallies
  pub table : List Held
  pub shelf : List (List ℕ)
  pub out : List ℕ

-- what a call leaves: its answer, the member, and what it was lent
pub record Left (S : Type 0) : Type 0 where
  pub result : Result Answer Refusal
  pub member : Member
  pub lent : Lent S

-- a refused call changes nothing
abbrev pub refused : {S : Type 0} → Member → Lent S → Refusal → Left S
refused m l e = record { result = Err e; member = m; lent = l }

abbrev pub with_chain : Member → Chain → Member
with_chain m c = record {
  site = m.site;
  held = m.held;
  chain = c;
  phase = m.phase;
  proposed = m.proposed;
  winners = m.winners;
  rows = m.rows;
}

abbrev pub with_phase : Member → Phase → Member
with_phase m p = record {
  site = m.site;
  held = m.held;
  chain = m.chain;
  phase = p;
  proposed = m.proposed;
  winners = m.winners;
  rows = m.rows;
}

abbrev pub with_proposed : Member → Proposed → Member
with_proposed m p = record {
  site = m.site;
  held = m.held;
  chain = m.chain;
  phase = m.phase;
  proposed = p;
  winners = m.winners;
  rows = m.rows;
}

abbrev pub with_rows : Member → List Row → Member
with_rows m r = record {
  site = m.site;
  held = m.held;
  chain = m.chain;
  phase = m.phase;
  proposed = m.proposed;
  winners = m.winners;
  rows = r;
}

abbrev pub with_held : Member → ℕ → Member
with_held m h = record {
  site = m.site;
  held = h;
  chain = m.chain;
  phase = m.phase;
  proposed = m.proposed;
  winners = m.winners;
  rows = m.rows;
}

abbrev pub with_winners : Member → List (Option ℕ) → Member
with_winners m w = record {
  site = m.site;
  held = m.held;
  chain = m.chain;
  phase = m.phase;
  proposed = m.proposed;
  winners = w;
  rows = m.rows;
}

-- nothing voted for, nothing recorded
abbrev pub empty_row : Row
empty_row = record { height = 0; round = round 0; certificate = None }

abbrev pub empty_rows : List Row
empty_rows = replicate 13 empty_row

-- the row of a member, by its number
abbrev pub row_of : List Row → ℕ → Row
row_of rows p = slice_index_or rows (p - 1) empty_row

abbrev pub set_row : List Row → ℕ → Row → List Row
set_row rows p r = slice_set rows (p - 1) r

-- who won the view, where its coin has fallen
abbrev pub winner_of : Member → ℕ → Option ℕ
winner_of m v = slice_index_or m.winners v None
