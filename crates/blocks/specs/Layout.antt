-- Fields that are written one after another into a buffer.
use Rattle.std.specs.Prelude.{ℕ, ◌+◌, Bool, List, ◌++◌, length, take, drop, nat_le}

-- a field has room at the place
abbrev pub fits : List ℕ → ℕ → List ℕ → Bool
fits out at field = nat_le (at + length field) (length out)

-- the buffer after the field was written at the place
abbrev pub pasted : List ℕ → ℕ → List ℕ → List ℕ
pasted out at field = take at out ++ (field ++ drop (at + length field) out)

-- a buffer with a message at its start: the bytes past the message stay
abbrev pub overlay : List ℕ → List ℕ → List ℕ
overlay out m = m ++ drop (length m) out
