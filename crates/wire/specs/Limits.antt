-- The sizes of what holds messages, as in the code's module of that name.
use Rattle.std.specs.Prelude.{ℕ}

-- the bytes of the largest certificate: 13 members, tags of 208 bytes
abbrev pub certificate_most : ℕ
certificate_most = 1925

-- the bytes of the outgoing buffer
abbrev pub outgoing_length : ℕ
outgoing_length = 2200
