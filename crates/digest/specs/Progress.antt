-- How far a compression has come: what the functions that make its rounds say to one another. Nothing else cites it.
use Rattle.std.specs.Prelude.{◌≡◌, ℕ, List, take}
use Rattle.digest.specs.declared.words.Working.{Working}
use Rattle.digest.specs.Compression.{schedule, rounds}

-- before round t of a compression of the block from s: w has the first t words of the schedule, and v is the working variables
pub record Stands (block : List ℕ) (s : Working) (t : ℕ) (w : List ℕ) (v : Working) : Type 0 where
  pub words : take t w ≡ schedule block t
  pub variables : v ≡ rounds (schedule block 64) s t
