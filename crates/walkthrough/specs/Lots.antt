-- How a lot is laid out as a payload: house (1), number (4), sacks (2).
use Rattle.std.specs.Prelude.{ℕ, List, ◌∷◌, ◌++◌}
use Rattle.digest.specs.Bytes.{bytes16, bytes32}
use Rattle.walkthrough.specs.declared.lot.Lot.{Lot}

abbrev pub lot_bytes : Lot → List ℕ
lot_bytes l = l.house ∷ (bytes32 l.number ++ bytes16 l.sacks)
