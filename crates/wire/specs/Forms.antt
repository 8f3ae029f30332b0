-- What the messages of a group are read and written against.
use Rattle.std.specs.Prelude.{ℕ, ◌+◌, ◌*◌}
use Rattle.attest.specs.declared.attestor.Attestor.{Ghosts}
use Rattle.wire.specs.declared.form.Form.{Form}

-- the group's size, the width of the attestor's tags, and the greatest value of a share
abbrev pub form_of : {S : Type 0} → Ghosts S → ℕ → ℕ → Form
form_of g n greatest = record { members = n; width = g.per_member * n + g.fixed; greatest = greatest }
