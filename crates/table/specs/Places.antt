-- The table of held blocks, by place. Any list of records is a table: a place past its end is read as genesis, and a parent
-- is read as a lower place or else as place 0, so that every table is a tree whose root is place 0.
use Rattle.std.specs.Prelude.{ℕ, zero, suc, ◌+◌, min, cond, List, length, take, replicate, Some, None, Option, nat_lt, slice_index_or}
use Rattle.std.specs.Str.{bytes_eq}
use Rattle.blocks.specs.declared.rank.Kind.TheVariants.{Regular}
use Rattle.blocks.specs.declared.statement.Statement.{Statement}
use Rattle.blocks.specs.Heads.{said}
use Rattle.blocks.specs.Limits.{id_length, payload_most}
use Rattle.blocks.specs.Ranks.{view, round}
use Rattle.table.specs.declared.held.Held.{Held}

-- genesis has a zero id and zero fields, and is its own parent
abbrev pub genesis : Held
genesis = record {
  head = record { kind = Regular; height = 0; proposer = 0; view = view 0; round = round 0; parent = replicate id_length 0; payload = 0 };
  id = replicate id_length 0;
  parent = 0;
  payload = replicate payload_most 0;
}

-- what a vote for the block says
abbrev pub statement_of : Held → Statement
statement_of block = said block.head block.id

-- the payload has as many bytes as the head says, at most 192
abbrev pub payload_of : Held → List ℕ
payload_of block = take (min payload_most block.head.payload) block.payload

abbrev pub at : List Held → ℕ → Held
at table i = slice_index_or table i genesis

-- the place of the parent
abbrev pub up : List Held → ℕ → ℕ
up table i = cond (nat_lt (at table i).parent i) (at table i).parent 0

-- the first of n places from i on whose block has the id
abbrev pub lookup_from : ℕ → List Held → ℕ → List ℕ → Option ℕ
lookup_from zero table i id = None
lookup_from (suc n) table i id = cond (bytes_eq (at table i).id id) (Some i) (lookup_from n table (i + 1) id)

-- the first of the first `held` places whose block has the id; a place past the table's end holds nothing
abbrev pub lookup : List Held → ℕ → List ℕ → Option ℕ
lookup table held id = lookup_from (min held (length table)) table 0 id
