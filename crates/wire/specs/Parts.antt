-- What the bytes of a message begin with.
use Rattle.std.specs.Prelude.{◌≡◌, ℕ, ◌+◌, ◌≤◌, List, length, take, drop, Some, None, slice_index}
use Rattle.digest.specs.Bytes.{number32}
use Rattle.blocks.specs.declared.rank.View.{View}
use Rattle.blocks.specs.declared.statement.Statement.{Statement}
use Rattle.blocks.specs.Ranks.{view}
use Rattle.blocks.specs.Statements.{read_statement}

-- a statement among n members, one byte, and the rest
pub record SaysFirst (n : ℕ) (bs : List ℕ) (s : Statement) (byte : ℕ) (rest : List ℕ) : Type 0 where
  pub statement : read_statement n (take 43 bs) ≡ Some s
  pub next : byte ≡ slice_index bs 43
  pub past : rest ≡ drop 44 bs
  pub long : length bs ≡ 44 + length rest

-- there is no such beginning
abbrev pub SaysNothing : ℕ → List ℕ → Type 0
SaysNothing n bs = 44 ≤ length bs → read_statement n (take 43 bs) ≡ None

-- a view, one byte, and the rest
pub record ViewFirst (bs : List ℕ) (v : View) (byte : ℕ) (rest : List ℕ) : Type 0 where
  pub viewed : v ≡ view (number32 bs 0)
  pub next : byte ≡ slice_index bs 4
  pub past : rest ≡ drop 5 bs
  pub long : length bs ≡ 5 + length rest
