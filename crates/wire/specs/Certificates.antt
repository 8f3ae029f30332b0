-- A certificate: a statement, a count byte, and as many entries of signer and tag, the signers rising.
use Rattle.std.specs.Prelude.{ℕ, ◌+◌, ◌*◌, Bool, cond, ◌&&◌, List, length, take, drop, Some, None, Option, ◌==◌, nat_le, slice_index}
use Rattle.blocks.specs.declared.statement.Statement.{Statement}
use Rattle.blocks.specs.Statements.{read_statement}
use Rattle.wire.specs.declared.form.Form.{Form}
use Rattle.wire.specs.declared.certificate.Certificate.{Certificate}
use Rattle.wire.specs.Entries.{Entry, entries_of, entries_formed}
use Rattle.wire.specs.Quorums.{quorum}

-- a certificate as part of a message: what it certifies, its bytes and their place
pub record CertificatePart : Type 0 where
  pub statement : Statement
  pub bytes : List ℕ
  pub at : ℕ

-- genesis needs no entry, any other block a quorum
abbrev pub count_for : ℕ → Statement → ℕ
count_for n s = cond (s.proposer == 0) 0 (quorum n)

-- the entries of a certificate with tags of `width` bytes
abbrev pub certificate_entries : ℕ → List ℕ → List Entry
certificate_entries width bs = entries_of width (slice_index bs 43) (drop 44 bs)

-- the bytes after the statement s have the form of a certificate of it
abbrev pub certified : Form → Statement → List ℕ → Bool
certified form s bs =
    (slice_index bs 43 == count_for form.members s)
    && (length bs == 44 + slice_index bs 43 * (1 + form.width)
    && entries_formed form.members None form.width (slice_index bs 43) 0 (drop 44 bs))

abbrev pub certificate_saying : Form → ℕ → List ℕ → Option Statement → Option CertificatePart
certificate_saying form at bs None = None
certificate_saying form at bs (Some s) = cond (certified form s bs) (Some (record { statement = s; bytes = bs; at = at })) None

-- the certificate that the bytes are, at their place in the message
abbrev pub read_certificate : Form → ℕ → List ℕ → Option CertificatePart
read_certificate form at bs = cond (nat_le 44 (length bs)) (certificate_saying form at bs (read_statement form.members (take 43 bs))) None

-- what the code's value tells
abbrev pub certificate_told : Certificate → CertificatePart
certificate_told c = record { statement = c.statement; bytes = c.part.bytes.now; at = c.part.at }
