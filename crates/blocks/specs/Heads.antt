-- A block: a head of 45 bytes, which is kind (1), height (1), proposer (1), view (4), round (4), parent's id (32), payload length (2),
-- and a payload of 0 to 192 bytes. Its id is the SHA-256 of head and payload.
use Rattle.std.specs.Prelude.{ℕ, ◌≤◌, Bool, cond, ◌&&◌, List, ◌∷◌, ◌++◌, length, Some, None, Option, ◌==◌, nat_le, nat_lt, slice_index}
use Rattle.std.specs.List.{between}
use Rattle.digest.specs.Bytes.{bytes16, bytes32, number16, number32}
use Rattle.digest.specs.Digest.{digest}
use Rattle.blocks.specs.declared.statement.Statement.{Statement}
use Rattle.blocks.specs.declared.head.Head.{Head}
use Rattle.blocks.specs.Limits.{head_length, payload_most}
use Rattle.blocks.specs.Ranks.{kind_number, kind_of, view, round}
use Rattle.blocks.specs.Statements.{height_fits, FieldsFit}

abbrev pub head_bytes : Head → List ℕ
head_bytes h =
    kind_number h.kind ∷ h.height ∷ h.proposer ∷ (bytes32 h.view.0 ++ (bytes32 h.round.0 ++ (h.parent ++ bytes16 h.payload)))

-- the fields of 45 bytes
abbrev pub head_of : List ℕ → Head
head_of bs = record {
  kind = kind_of (slice_index bs 0);
  height = slice_index bs 1;
  proposer = slice_index bs 2;
  view = view (number32 bs 3);
  round = round (number32 bs 7);
  parent = between 11 43 bs;
  payload = number16 bs 43;
}

-- the bytes have the form of a head among n members: a member proposes, the height fits the kind, and the payload is not too long
abbrev pub head_formed : ℕ → List ℕ → Bool
head_formed n bs =
    nat_lt 0 (slice_index bs 2) && (nat_le (slice_index bs 2) n && (height_fits (slice_index bs 0) (slice_index bs 1) && nat_le (number16 bs 43) payload_most))

abbrev pub read_head : ℕ → List ℕ → Option Head
read_head n bs = cond (length bs == head_length && head_formed n bs) (Some (head_of bs)) None

-- what is said of the block with this head and id
abbrev pub said : Head → List ℕ → Statement
said h i = record { kind = h.kind; height = h.height; proposer = h.proposer; view = h.view; round = h.round; id = i }

-- the id of the block with this head and payload
abbrev pub block_id : Head → List ℕ → List ℕ
block_id h payload = digest (head_bytes h ++ payload)

-- a member's block can have this head, among n members: its fields fit as those of a statement, with the parent's id, and the
-- payload is not too long
pub record HeadFits (n : ℕ) (h : Head) : Type 0 where
  pub fields : FieldsFit n (said h h.parent)
  pub payloads : h.payload ≤ payload_most
