-- Bytes judged by their form: the kind of message that they are, or refusal 2.
use Rattle.std.specs.Prelude.{ℕ, Some, None, Ok, Err, Option, Result}
use Rattle.wire.specs.Layouts.{message_number}
use Rattle.wire.specs.Messages.{Text}

abbrev pub judged : Option Text → Result ℕ ℕ
judged (Some t) = Ok (message_number t)
judged None = Err 2
