-- The committed entries, read by number from 1.
use Rattle.std.specs.Prelude.{ℕ, Bool, cond, List, length, Some, None, Ok, Err, Option, Result, ◌==◌}
use Rattle.table.specs.declared.held.Held.{Held}
use Rattle.table.specs.Committed.{entry_place}
use Rattle.table.specs.Places.{at}
use Rattle.member.specs.declared.state.Member.{Member}
use Rattle.member.specs.declared.types.Refusal.{Refusal}
use Rattle.member.specs.declared.types.Refusal.TheVariants.{Sizes}

-- the table is as long as at set up
abbrev pub table_fits : Member → List Held → Bool
table_fits m table = length table == m.site.places

abbrev pub held_at : List Held → Option ℕ → Option Held
held_at table None = None
held_at table (Some i) = Some (at table i)

-- what the entry call answers: 0 and numbers past the count give none
abbrev pub entry : Member → List Held → ℕ → Result (Option Held) Refusal
entry m table k = cond (table_fits m table) (Ok (held_at table (entry_place table m.chain.last k))) (Err Sizes)
