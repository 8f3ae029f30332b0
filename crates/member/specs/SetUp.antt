-- Set up: a fresh member, and what it writes into what it is lent.
use Rattle.std.specs.Prelude.{ℕ, cond, List, [], length, replicate, None, Ok, Err, Option, Result, slice_index_or, slice_set}
use Rattle.blocks.specs.declared.rank.Kind.TheVariants.{Regular}
use Rattle.blocks.specs.Layout.{overlay}
use Rattle.blocks.specs.Ranks.{view, round}
use Rattle.blocks.specs.Statements.{genesis, rank_of}
use Rattle.table.specs.Places.{genesis as genesis_block}
use Rattle.member.specs.declared.types.Stage.TheVariants.{Steady}
use Rattle.member.specs.declared.state.Member.{Member}
use Rattle.member.specs.declared.state.Site.{Site}
use Rattle.member.specs.declared.sizes.Lengths.{Lengths}
use Rattle.member.specs.declared.types.Refusal.{Refusal}
use Rattle.member.specs.declared.types.Refusal.TheVariants.{Sizes}
use Rattle.table.specs.declared.held.Held.{Held}
use Rattle.member.specs.Sizes.{sized}
use Rattle.member.specs.States.{Lent, empty_rows}

abbrev pub site : ℕ → ℕ → ℕ → Site
site own n places = record { own = own; members = n; places = places }

-- view 0, round 1, nothing voted for, genesis held, certified and committed
abbrev pub fresh : Site → Member
fresh s = record {
  site = s;
  held = 1;
  chain = record { round = round 1; lock = rank_of genesis; high = genesis; last = 0 };
  phase = record { view = view 0; stage = Steady; voted = round 0 };
  proposed = record { view = view 0; kind = Regular; step = 0 };
  winners = replicate 1024 None;
  rows = empty_rows;
}

abbrev pub emptied : {T : Type 0} → List (Option T) → List (Option T)
emptied places = replicate (length places) None

-- genesis is held at place 0
abbrev pub prepared_table : List Held → List Held
prepared_table table = slice_set table 0 genesis_block

-- its certificate of 44 zero bytes stands at place 0 of the shelf
abbrev pub prepared_shelf : List (List ℕ) → List (List ℕ)
prepared_shelf shelf = slice_set shelf 0 (overlay (slice_index_or shelf 0 []) (replicate 44 0))

-- what set up answers for a member of this number, n and lengths of what is lent
abbrev pub set_up : ℕ → ℕ → Lengths → Result Member Refusal
set_up own n k = cond (sized (site own n k.table) k) (Ok (fresh (site own n k.table))) (Err Sizes)

-- what it leaves: the tallies emptied, genesis held and its certificate on the shelf
abbrev pub prepared : {S : Type 0} → Lent S → Lent S
prepared l = record {
  attestor = l.attestor;
  tallies = record {
    votes = emptied l.tallies.votes;
    timeouts = emptied l.tallies.timeouts;
    finished = emptied l.tallies.finished;
    shares = emptied l.tallies.shares;
  };
  table = prepared_table l.table;
  shelf = prepared_shelf l.shelf;
  out = l.out;
}
