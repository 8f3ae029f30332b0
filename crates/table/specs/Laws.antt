-- What holds of every table, and of the committed blocks of a well linked one.
use Rattle.std.specs.Prelude.{◌≡◌, ℕ, ◌+◌, ◌<◌, ◌≤◌, true, ◌⊎◌, List, ◌++◌, length, is_some, IfSome, Some, Option, ◌≢◌, slice_index_or, slice_set}
use Rattle.table.specs.declared.held.Held.{Held}
use Rattle.table.specs.Places.{at, up, lookup}
use Rattle.table.specs.Ancestry.{extends, ancestor, round_at}
use Rattle.table.specs.Committed.{Block, block_of, one_view, commit, committed_count, entry_place, committed_list}

-- a place that was looked up: it is held, its block has the id, and it is the first such place
pub record Found (table : List Held) (held : ℕ) (id : List ℕ) (i : ℕ) : Type 0 where
  pub within : i < held
  pub there : i < length table
  pub named : (at table i).id ≡ id
  pub first : (k : ℕ) → k < i → (at table k).id ≢ id

-- what is found has the id, and what is held and has the id is found
pub record Finds (table : List Held) (held : ℕ) (id : List ℕ) (r : Option ℕ) : Type 0 where
  pub right : IfSome r (Found table held id)
  pub sought : (i : ℕ) → i < held → i < length table → (at table i).id ≡ id → is_some r ≡ true

-- the block at place i is an ancestor of that at place a, and of the round
pub record Ancestor (table : List Held) (a round i : ℕ) : Type 0 where
  pub extended : extends table a i ≡ true
  pub of_round : round_at table i ≡ round

-- what is found is an ancestor of the round, and one is found where there is one
pub record Ancestors (table : List Held) (a round : ℕ) (r : Option ℕ) : Type 0 where
  pub right : IfSome r (Ancestor table a round)
  pub sought : (i : ℕ) → Ancestor table a round i → is_some r ≡ true

-- blocks are ordered by extending, with genesis at the root, and the ancestors of a block are a chain
pub record Ancestry (table : List Held) : Type 0 where
  pub reflexive : (a : ℕ) → extends table a a ≡ true
  pub transitive : (a b c : ℕ) → extends table a b ≡ true → extends table b c ≡ true → extends table a c ≡ true
  pub antisymmetric : (a b : ℕ) → extends table a b ≡ true → extends table b a ≡ true → a ≡ b
  pub root : (a : ℕ) → extends table a 0 ≡ true
  pub chain : (a b c : ℕ) → extends table a b ≡ true → extends table a c ≡ true → (extends table b c ≡ true) ⊎ (extends table c b ≡ true)

-- the way up from a block is well linked: each block's round is its parent's + 1, and genesis has round 0
pub record Linked (table : List Held) (a : ℕ) : Type 0 where
  pub genesis : round_at table 0 ≡ 0
  pub rounds : (i : ℕ) → 0 < i → extends table a i ≡ true → round_at table i ≡ round_at table (up table i) + 1

-- how a way up comes to be well linked
pub record Links (table : List Held) : Type 0 where
  pub start : round_at table 0 ≡ 0 → Linked table 0
  pub next : (i : ℕ) → 0 < i → round_at table i ≡ round_at table (up table i) + 1 → Linked table (up table i) → Linked table i
  pub below : (a b : ℕ) → extends table a b ≡ true → Linked table a → Linked table b

-- a block is put into a place: nothing changes for the places below it
pub record Kept (before after : List Held) (place : ℕ) : Type 0 where
  pub blocks : (i : ℕ) → i < place → at after i ≡ at before i
  pub lookups : (held : ℕ) (id : List ℕ) → held ≤ place → lookup after held id ≡ lookup before held id
  pub extensions : (a b : ℕ) → a < place → extends after a b ≡ extends before a b
  pub ancestors : (a round : ℕ) → a < place → ancestor after a round ≡ ancestor before a round
  pub commits : (last i : ℕ) → last < place → i < place → commit after last i ≡ commit before last i
  pub entries : (last k : ℕ) → last < place → entry_place after last k ≡ entry_place before last k
  pub lists : (last : ℕ) → last < place → committed_list after last ≡ committed_list before last
  pub links : (a : ℕ) → a < place → Linked before a → Linked after a

-- the second list begins with the first
pub record Beginning (xs ys : List Block) : Type 0 where
  pub rest : List Block
  pub whole : ys ≡ xs ++ rest

-- the entries of a table whose last committed block is well linked
pub record Entries (table : List Held) (last : ℕ) : Type 0 where
  -- each number from 1 to the count has an entry, which is of that round
  pub placed : (k : ℕ) → 0 < k → k ≤ committed_count table last → (i : ℕ) × ((entry_place table last k ≡ Some i) × (round_at table i ≡ k))
  -- each entry's parent is the entry before it, and the parent of the first is genesis
  pub parents : (k i : ℕ) → 0 < k → entry_place table last (k + 1) ≡ Some i → entry_place table last k ≡ Some (up table i)
  pub first : (i : ℕ) → entry_place table last 1 ≡ Some i → up table i ≡ 0
  -- the committed list has just the entries
  pub counted : length (committed_list table last) ≡ committed_count table last
  pub listed : (k i : ℕ) (d : Block) → entry_place table last (k + 1) ≡ Some i → slice_index_or (committed_list table last) k d ≡ block_of (at table i)
  -- the list of what was committed before is a beginning of it
  pub grows : (before : ℕ) → extends table last before ≡ true → Beginning (committed_list table before) (committed_list table last)

-- what seeing a certificate of the block at place i makes of the last committed place
pub record Commits (table : List Held) (last i next : ℕ) : Type 0 where
  -- it never goes back
  pub onward : extends table next last ≡ true
  -- the grandparent of three blocks of one view is committed
  pub grandparent : one_view table i ≡ true → extends table next (up table (up table i)) ≡ true
  -- the committed list stays or grows at its end
  pub grows : Linked table next → Beginning (committed_list table last) (committed_list table next)

-- the laws of all tables, each whatever the table holds
pub record Laws : Type 0 where
  pub finds : (table : List Held) (held : ℕ) (id : List ℕ) → Finds table held id (lookup table held id)
  pub ancestry : (table : List Held) → Ancestry table
  pub ancestors : (table : List Held) (a round : ℕ) → Ancestors table a round (ancestor table a round)
  pub links : (table : List Held) → Links table
  pub kept : (table : List Held) (place : ℕ) (block : Held) → Kept table (slice_set table place block) place
  pub commits : (table : List Held) (last i : ℕ) → IfSome (commit table last i) (Commits table last i)
  pub entries : (table : List Held) (last : ℕ) → Linked table last → Entries table last
