-- The limits of the formats, as in the code's module of that name.
use Rattle.std.specs.Prelude.{ℕ}

abbrev pub last_view : ℕ
last_view = 1023

abbrev pub last_round : ℕ
last_round = 1000000

-- how many rounds in a row one member leads
abbrev pub rounds_led : ℕ
rounds_led = 4

abbrev pub id_length : ℕ
id_length = 32

abbrev pub head_length : ℕ
head_length = 45

abbrev pub payload_most : ℕ
payload_most = 192

abbrev pub statement_length : ℕ
statement_length = 43
