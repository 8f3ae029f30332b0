-- The walk over the places that keep an item alike to a given one, as an iterator.
use Rattle.std.specs.Prelude.{ℕ, Bool, List}
use denote.Ref.{Bor}
use Rattle.tally.specs.declared.places.Alike.{Alike}
use Rattle.tally.specs.Walk.{kept_alike}

-- a place, and the item that it keeps
abbrev pub place_and_item : {T : Type 0} → ℕ × Bor T → ℕ × T
place_and_item met = (met.0, met.1.now)

-- what the walk still meets
abbrev pub still_alike : {T : Type 0} → (T → T → Bool) → Alike T → List (ℕ × T)
still_alike alike s = kept_alike alike s.item.now s.places.now s.place
