-- Record: a fallback certificate of this view is kept in its proposer's row, if it ranks above the one there.
use Rattle.std.specs.Prelude.{ℕ, Bool, true, cond, List, [], Some, None, Option, slice_index_or, slice_set}
use Rattle.blocks.specs.declared.statement.Statement.{Statement}
use Rattle.blocks.specs.Layout.{overlay}
use Rattle.member.specs.declared.rows.Row.{Row}
use Rattle.member.specs.States.{row_of, set_row}
use Rattle.member.specs.See.{raises}

abbrev pub above_recorded : Option Statement → Statement → Bool
above_recorded None s = true
above_recorded (Some old) s = raises old s

abbrev pub records : List Row → Statement → Bool
records rows s = above_recorded (row_of rows s.proposer).certificate s

abbrev pub recorded : Row → Statement → Row
recorded r s = record { height = r.height; round = r.round; certificate = Some s }

abbrev pub record_rows : List Row → Statement → List Row
record_rows rows s = cond (records rows s) (set_row rows s.proposer (recorded (row_of rows s.proposer) s)) rows

-- a row's certificate stands on the shelf at its member's number
abbrev pub record_shelf : List (List ℕ) → List Row → Statement → List ℕ → List (List ℕ)
record_shelf shelf rows s bytes =
    cond (records rows s) (slice_set shelf s.proposer (overlay (slice_index_or shelf s.proposer []) bytes)) shelf
