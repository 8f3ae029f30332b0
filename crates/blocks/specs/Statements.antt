-- A statement: what a vote says of a block, in 43 bytes: kind (1), height (1), proposer (1), view (4), round (4), id (32).
use Rattle.std.specs.Prelude.{◌≡◌, ℕ, ◌^◌, ◌<◌, ◌≤◌, Bool, true, cond, ◌&&◌, ◌⊎◌, List, ◌∷◌, ◌++◌, length, replicate, Some, None, Option, ◌==◌, nat_le, nat_lt, slice_index}
use Rattle.std.specs.List.{between}
use Rattle.std.specs.Str.{bytes_eq}
use Rattle.digest.specs.Bytes.{bytes32, number32}
use Rattle.blocks.specs.declared.rank.Kind.TheVariants.{Regular}
use Rattle.blocks.specs.declared.rank.Rank.{Rank}
use Rattle.blocks.specs.declared.statement.Statement.{Statement}
use Rattle.blocks.specs.Limits.{id_length, statement_length}
use Rattle.blocks.specs.Ranks.{kind_number, kind_of, view, round}

abbrev pub rank_of : Statement → Rank
rank_of s = record { view = s.view; kind = s.kind; round = s.round }

-- a regular block has height 0, a fallback block 1 to 3; kind is its byte
abbrev pub height_fits : ℕ → ℕ → Bool
height_fits kind h = cond (kind == 0) (h == 0) (kind == 1 && (nat_lt 0 h && nat_le h 3))

-- genesis has a zero id and zero fields: 43 zero bytes
abbrev pub genesis : Statement
genesis = record { kind = Regular; height = 0; proposer = 0; view = view 0; round = round 0; id = replicate id_length 0 }

abbrev pub statement_bytes : Statement → List ℕ
statement_bytes s =
    kind_number s.kind ∷ s.height ∷ s.proposer ∷ (bytes32 s.view.0 ++ (bytes32 s.round.0 ++ s.id))

-- the fields of 43 bytes
abbrev pub statement_of : List ℕ → Statement
statement_of bs = record {
  kind = kind_of (slice_index bs 0);
  height = slice_index bs 1;
  proposer = slice_index bs 2;
  view = view (number32 bs 3);
  round = round (number32 bs 7);
  id = between 11 43 bs;
}

-- the bytes have the form of a statement among n members: the proposer is a member and the height fits the kind,
-- or it is 0 and the bytes are genesis'
abbrev pub statement_formed : ℕ → List ℕ → Bool
statement_formed n bs =
    cond (slice_index bs 2 == 0) (bytes_eq bs (replicate statement_length 0)) (nat_le (slice_index bs 2) n && height_fits (slice_index bs 0) (slice_index bs 1))

abbrev pub read_statement : ℕ → List ℕ → Option Statement
read_statement n bs = cond (length bs == statement_length && statement_formed n bs) (Some (statement_of bs)) None

-- a member's block can have these fields, among n members: it is of a member, the height fits the kind, view and round have
-- room in four bytes, and the id in its 32
pub record FieldsFit (n : ℕ) (s : Statement) : Type 0 where
  pub lowest : 1 ≤ s.proposer
  pub highest : s.proposer ≤ n
  pub heights : height_fits (kind_number s.kind) s.height ≡ true
  pub views : s.view.0 < 2 ^ 32
  pub rounds : s.round.0 < 2 ^ 32
  pub ids : length s.id ≡ id_length

-- what can be said among n members: of genesis, or of a member's block
abbrev pub StatementFits : ℕ → Statement → Type 0
StatementFits n s = (s ≡ genesis) ⊎ FieldsFit n s
