-- Certificates on the shelf: high at place 0, the recorded one of a member at its number.
use Rattle.std.specs.Prelude.{ℕ, ◌+◌, ◌*◌, List, [], take, slice_index_or}
use Rattle.blocks.specs.declared.statement.Statement.{Statement}
use Rattle.wire.specs.declared.form.Form.{Form}
use Rattle.wire.specs.Certificates.{CertificatePart, count_for}

-- the bytes of a certificate of s
abbrev pub certificate_length : Form → Statement → ℕ
certificate_length form s = 44 + count_for form.members s * (1 + form.width)

-- the certificate of s at a place of the shelf
abbrev pub shelved : Form → List (List ℕ) → ℕ → Statement → List ℕ
shelved form shelf place s = take (certificate_length form s) (slice_index_or shelf place [])

-- the same, as part of a message that is to be written
abbrev pub shelved_part : Form → List (List ℕ) → ℕ → Statement → ℕ → CertificatePart
shelved_part form shelf place s at = record { statement = s; bytes = shelved form shelf place s; at = at }
