-- What seeing a certificate commits, and the committed blocks as entries of the ledger.
use Rattle.std.specs.Prelude.{ℕ, zero, suc, ◌+◌, Bool, cond, ◌&&◌, ◌||◌, List, [], ◌∷◌, Some, None, Option, ◌==◌, nat_lt}
use Rattle.blocks.specs.declared.head.Head.{Head}
use Rattle.table.specs.declared.held.Held.{Held}
use Rattle.table.specs.Places.{at, up, payload_of}
use Rattle.table.specs.Ancestry.{extends, ancestor, round_at, view_at}

-- a block, its parent and its grandparent are of one view
abbrev pub one_view : List Held → ℕ → Bool
one_view table i = view_at table i == view_at table (up table i) && view_at table i == view_at table (up table (up table i))

-- the last committed place becomes the given one if that extends it, and stays if it extends the given one; none is a fork
abbrev pub onward : List Held → ℕ → ℕ → Option ℕ
onward table last i = cond (extends table i last) (Some i) (cond (extends table last i) (Some last) None)

-- the last committed place once a certificate of the block at place i is seen
abbrev pub commit : List Held → ℕ → ℕ → Option ℕ
commit table last i = cond (one_view table i) (onward table last (up table (up table i))) (Some last)

-- a block's round is its distance from genesis, which is not counted
abbrev pub committed_count : List Held → ℕ → ℕ
committed_count table last = round_at table last

-- the place of entry k
abbrev pub entry_place : List Held → ℕ → ℕ → Option ℕ
entry_place table last k = cond (k == 0 || nat_lt (committed_count table last) k) None (ancestor table last k)

-- a block by its contents, wherever it is held
pub record Block : Type 0 where
  pub head : Head
  pub payload : List ℕ

abbrev pub block_of : Held → Block
block_of block = record { head = block.head; payload = payload_of block }

-- a block at a place, if there is one, and then the rest
abbrev pub block_then : List Held → Option ℕ → List Block → List Block
block_then table None rest = []
block_then table (Some i) rest = block_of (at table i) ∷ rest

-- at most n entries from k on, until there is none
abbrev pub entries_from : ℕ → List Held → ℕ → ℕ → List Block
entries_from zero table last k = []
entries_from (suc n) table last k = block_then table (entry_place table last k) (entries_from n table last (k + 1))

-- the blocks read as entries 1, 2 and on; entries past the count are none
abbrev pub committed_list : List Held → ℕ → List Block
committed_list table last = entries_from (committed_count table last) table last 1
