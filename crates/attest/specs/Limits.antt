-- The limits that every attestor keeps, and how a message is written into a buffer.
use Rattle.std.specs.Prelude.{ℕ, ◌*◌, List, ◌++◌, length, drop}

-- the most members of a group
abbrev pub max_members : ℕ
max_members = 13

-- the bytes of the longest tag
abbrev pub tag_room : ℕ
tag_room = 16 * max_members

-- the bytes of the longest words
abbrev pub words_most : ℕ
words_most = 44

-- a buffer after a message was written to its start: the bytes past it stay
abbrev pub overlay : List ℕ → List ℕ → List ℕ
overlay buffer message = message ++ drop (length message) buffer
