-- Reading and writing undo one another.
use Rattle.std.specs.Prelude.{◌≡◌, ℕ, ◌<◌, List, Some, Option}
use Rattle.std.specs.List.{AllByRecursion}
use Rattle.blocks.specs.Statements.{statement_bytes, read_statement, StatementFits}
use Rattle.blocks.specs.Heads.{head_bytes, read_head, HeadFits}

abbrev pub AreBytes : List ℕ → Type 0
AreBytes bs = AllByRecursion (λ b. b < 256) bs

-- what fits is written so that it reads back as the same; what is read fits, and writes back as the same bytes
pub record RoundTrip {A : Type 0} (Fits : A → Type 0) (written : A → List ℕ) (read : List ℕ → Option A) : Type 0 where
  pub back : (a : A) → Fits a → read (written a) ≡ Some a
  pub again : (bs : List ℕ) (a : A) → AreBytes bs → read bs ≡ Some a → written a ≡ bs
  pub fits : (bs : List ℕ) (a : A) → AreBytes bs → read bs ≡ Some a → Fits a

abbrev pub StatementsRoundTrip : Type 0
StatementsRoundTrip = (n : ℕ) → RoundTrip (StatementFits n) statement_bytes (read_statement n)

abbrev pub HeadsRoundTrip : Type 0
HeadsRoundTrip = (n : ℕ) → RoundTrip (HeadFits n) head_bytes (read_head n)
