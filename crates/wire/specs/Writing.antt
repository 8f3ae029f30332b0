-- Writing a message at the start of a buffer: whole, or not at all.
use Rattle.std.specs.Prelude.{ℕ, Bool, cond, List, length, Ok, Err, Result, nat_le}
use Rattle.blocks.specs.Layout.{overlay}
use Rattle.wire.specs.declared.writer.TooShort.{TooShort}

-- the buffer has room for the message
abbrev pub has_room : List ℕ → List ℕ → Bool
has_room out m = nat_le (length m) (length out)

-- the answer: the message's length, or that the buffer is too short
abbrev pub writing : List ℕ → List ℕ → Result ℕ TooShort
writing out m = cond (has_room out m) (Ok (length m)) (Err (record {}))

-- the buffer thereafter: the bytes past the message stay, and without room all of them
abbrev pub written : List ℕ → List ℕ → List ℕ
written out m = cond (has_room out m) (overlay out m) out
