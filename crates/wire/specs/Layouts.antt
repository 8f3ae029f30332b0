-- How certificates, messages and words are laid out, field after field.
use Rattle.std.specs.Prelude.{ℕ, List, ◌∷◌, ◌++◌, length}
use Rattle.std.specs.List.{flat_map}
use Rattle.coin.specs.Shares.{size}
use Rattle.digest.specs.Bytes.{bytes16, bytes32}
use Rattle.blocks.specs.declared.rank.View.{View}
use Rattle.blocks.specs.declared.statement.Statement.{Statement}
use Rattle.blocks.specs.Statements.{statement_bytes}
use Rattle.wire.specs.declared.form.Form.{Form}
use Rattle.wire.specs.Entries.{Entry}
use Rattle.wire.specs.Messages.{Text, proposal, vote, timeout, timeout_certificate, certificate, share, coin_certificate}
use Rattle.wire.specs.Quorums.{quorum}

-- words are what is signed: a vote, a timeout, a coin share
abbrev pub vote_words : Statement → List ℕ
vote_words s = 1 ∷ statement_bytes s

abbrev pub timeout_words : View → List ℕ
timeout_words v = 2 ∷ bytes32 v.0

abbrev pub share_words : View → ℕ → ℕ → List ℕ
share_words v member value = 3 ∷ (bytes32 v.0 ++ (member ∷ bytes16 value))

abbrev pub entry_bytes : Entry → List ℕ
entry_bytes e = e.signer ∷ e.tail

-- a certificate: statement, count, entries
abbrev pub certificate_bytes : Statement → List Entry → List ℕ
certificate_bytes s es = statement_bytes s ++ (length es ∷ flat_map entry_bytes es)

-- what was gathered in a view: view, count, entries
abbrev pub gathered_bytes : View → ℕ → List ℕ → List ℕ
gathered_bytes v count entries = bytes32 v.0 ++ (count ∷ entries)

-- the number that the first byte has
abbrev pub message_number : Text → ℕ
message_number (proposal b c) = 1
message_number (vote v) = 2
message_number (timeout t) = 3
message_number (timeout_certificate g) = 4
message_number (certificate c) = 5
message_number (share s) = 6
message_number (coin_certificate g) = 7

-- what follows it
abbrev pub body_bytes : Form → Text → List ℕ
body_bytes form (proposal b c) = b.bytes ++ c.bytes
body_bytes form (vote v) = statement_bytes v.statement ++ (v.signer ∷ v.tag)
body_bytes form (timeout t) = bytes32 t.view.0 ++ (t.signer ∷ (t.tag ++ t.certificate.bytes))
body_bytes form (timeout_certificate g) = gathered_bytes g.view (quorum form.members) g.entries
body_bytes form (certificate c) = c.bytes
body_bytes form (share s) = bytes32 s.view.0 ++ (s.member ∷ (bytes16 s.value ++ s.tag))
body_bytes form (coin_certificate g) = gathered_bytes g.view (size form.members) g.entries

abbrev pub message_bytes : Form → Text → List ℕ
message_bytes form t = message_number t ∷ body_bytes form t
