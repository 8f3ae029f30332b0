-- Numbers as bytes, the highest first.
use Rattle.std.specs.Prelude.{ℕ, ◌+◌, ◌*◌, ◌/◌, ◌%◌, List, [], ◌∷◌, slice_index}

-- the low 16 bits of a number, as two bytes
abbrev pub bytes16 : ℕ → List ℕ
bytes16 x = x / 256 % 256 ∷ x % 256 ∷ []

-- the low 32 bits, as four bytes
abbrev pub bytes32 : ℕ → List ℕ
bytes32 x = x / 16777216 % 256 ∷ x / 65536 % 256 ∷ x / 256 % 256 ∷ x % 256 ∷ []

-- the low 64 bits, as eight bytes
abbrev pub bytes64 : ℕ → List ℕ
bytes64 x =
    x / 72057594037927936 % 256 ∷ x / 281474976710656 % 256 ∷ x / 1099511627776 % 256 ∷ x / 4294967296 % 256 ∷
    x / 16777216 % 256 ∷ x / 65536 % 256 ∷ x / 256 % 256 ∷ x % 256 ∷ []

-- the number in the two bytes from place i on
abbrev pub number16 : List ℕ → ℕ → ℕ
number16 bs i = slice_index bs i * 256 + slice_index bs (i + 1)

-- the number in the four bytes from place i on
abbrev pub number32 : List ℕ → ℕ → ℕ
number32 bs i =
    slice_index bs i * 16777216 + slice_index bs (i + 1) * 65536 + slice_index bs (i + 2) * 256 + slice_index bs (i + 3)
