-- The seven messages: the first byte gives the kind, and the rest follows without a spare byte. What stands at a place of a message is
-- told with that place. A reading gives nothing where the bytes have not the form.
use Rattle.std.specs.Prelude.{ℕ, ◌+◌, ◌*◌, Bool, cond, ◌&&◌, List, length, take, drop, Some, None, Option, ◌==◌, nat_le, slice_index}
use Rattle.std.specs.Option.{option_map}
use Rattle.coin.specs.Shares.{size, is_member}
use Rattle.digest.specs.Bytes.{number16, number32}
use Rattle.blocks.specs.declared.head.Head.{Head}
use Rattle.blocks.specs.declared.rank.View.{View}
use Rattle.blocks.specs.declared.statement.Statement.{Statement}
use Rattle.blocks.specs.Heads.{read_head}
use Rattle.blocks.specs.Ranks.{view}
use Rattle.blocks.specs.Statements.{read_statement}
use Rattle.wire.specs.declared.form.Form.{Form}
use Rattle.wire.specs.Certificates.{CertificatePart, read_certificate}
use Rattle.wire.specs.Entries.{entries_formed}
use Rattle.wire.specs.Quorums.{quorum}

-- a block as part of a message: its head, and the bytes of head and payload with their place
pub record BlockPart : Type 0 where
  pub head : Head
  pub bytes : List ℕ
  pub at : ℕ

pub record VoteText : Type 0 where
  pub statement : Statement
  pub signer : ℕ
  pub tag : List ℕ

pub record TimeoutText : Type 0 where
  pub view : View
  pub signer : ℕ
  pub tag : List ℕ
  pub certificate : CertificatePart

-- what was gathered from several members in one view: timeouts, or shares
pub record GatheredText : Type 0 where
  pub view : View
  pub entries : List ℕ

pub record ShareText : Type 0 where
  pub view : View
  pub member : ℕ
  pub value : ℕ
  pub tag : List ℕ

pub data Text : Type 0 where
  proposal : BlockPart → CertificatePart → Text
  vote : VoteText → Text
  timeout : TimeoutText → Text
  timeout_certificate : GatheredText → Text
  certificate : CertificatePart → Text
  share : ShareText → Text
  coin_certificate : GatheredText → Text

-- a block: head and payload
abbrev pub block_headed : ℕ → List ℕ → Option Head → Option BlockPart
block_headed at bs None = None
block_headed at bs (Some h) =
    cond (nat_le (45 + h.payload) (length bs)) (Some (record { head = h; bytes = take (45 + h.payload) bs; at = at })) None

abbrev pub read_block : Form → ℕ → List ℕ → Option BlockPart
read_block form at bs = cond (nat_le 45 (length bs)) (block_headed at bs (read_head form.members (take 45 bs))) None

-- 1, proposal: block, parent's certificate
abbrev pub proposal_of : Form → List ℕ → Option BlockPart → Option Text
proposal_of form bs None = None
proposal_of form bs (Some b) =
    option_map (proposal b) (read_certificate form (1 + length b.bytes) (drop (length b.bytes) bs))

abbrev pub read_proposal : Form → List ℕ → Option Text
read_proposal form bs = proposal_of form bs (read_block form 1 bs)

-- 2, vote: statement, signer, tag
abbrev pub vote_saying : Form → List ℕ → Option Statement → Option Text
vote_saying form bs None = None
vote_saying form bs (Some s) =
    cond (is_member form.members (slice_index bs 43)) (Some (vote (record { statement = s; signer = slice_index bs 43; tag = drop 44 bs }))) None

abbrev pub read_vote : Form → List ℕ → Option Text
read_vote form bs = cond (length bs == 44 + form.width) (vote_saying form bs (read_statement form.members (take 43 bs))) None

-- 3, timeout: view, signer, tag, certificate
abbrev pub timeout_with : Form → List ℕ → CertificatePart → Text
timeout_with form bs c =
    timeout (record { view = view (number32 bs 0); signer = slice_index bs 4; tag = take form.width (drop 5 bs); certificate = c })

abbrev pub read_timeout : Form → List ℕ → Option Text
read_timeout form bs =
    cond (nat_le (5 + form.width) (length bs) && is_member form.members (slice_index bs 4))
    (option_map (timeout_with form bs) (read_certificate form (6 + form.width) (drop (5 + form.width) bs))) None

-- view, count, and that many entries, each of `wide` bytes after the member
abbrev pub gathered_formed : ℕ → Option ℕ → ℕ → ℕ → List ℕ → Bool
gathered_formed n limit wide count bs =
    nat_le 5 (length bs)
    && (slice_index bs 4 == count && (length bs == 5 + count * (1 + wide) && entries_formed n limit wide count 0 (drop 5 bs)))

abbrev pub gathered : List ℕ → GatheredText
gathered bs = record { view = view (number32 bs 0); entries = drop 5 bs }

-- 4, timeout certificate: view, count 2 f + 1, entries of signer and tag
abbrev pub read_timeout_certificate : Form → List ℕ → Option Text
read_timeout_certificate form bs =
    cond (gathered_formed form.members None form.width (quorum form.members) bs) (Some (timeout_certificate (gathered bs))) None

-- 5, certificate
abbrev pub read_sole : Form → List ℕ → Option Text
read_sole form bs = option_map certificate (read_certificate form 1 bs)

-- 6, share: view, member, value, dealer's tag
abbrev pub read_share : Form → List ℕ → Option Text
read_share form bs =
    cond (length bs == 7 + form.width && (is_member form.members (slice_index bs 4) && nat_le (number16 bs 5) form.greatest))
    (Some (share (record { view = view (number32 bs 0); member = slice_index bs 4; value = number16 bs 5; tag = drop 7 bs }))) None

-- 7, coin certificate: view, count f + 1, entries of member, value and tag
abbrev pub read_coin_certificate : Form → List ℕ → Option Text
read_coin_certificate form bs =
    cond (gathered_formed form.members (Some form.greatest) (2 + form.width) (size form.members) bs) (Some (coin_certificate (gathered bs))) None

abbrev pub by_kind : Form → ℕ → List ℕ → Option Text
by_kind form kind rest =
    cond (kind == 1) (read_proposal form rest)
    (cond (kind == 2) (read_vote form rest)
    (cond (kind == 3) (read_timeout form rest)
    (cond (kind == 4) (read_timeout_certificate form rest)
    (cond (kind == 5) (read_sole form rest)
    (cond (kind == 6) (read_share form rest)
    (cond (kind == 7) (read_coin_certificate form rest) None))))))

-- the message that the bytes are
abbrev pub read_message : Form → List ℕ → Option Text
read_message form m = cond (nat_le 1 (length m)) (by_kind form (slice_index m 0) (drop 1 m)) None
