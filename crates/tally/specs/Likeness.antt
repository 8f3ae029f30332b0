-- What the rank and the likeness of items have to be.
use Rattle.std.specs.Prelude.{◌≡◌, Bool, true, false}

-- `above x y`: x ranks above y. `alike x y`: the two count together.
pub record Likeness {T : Type 0} (above alike : T → T → Bool) : Type 0 where
  -- ranks are a strict order ..
  pub irreflexive : (x : T) → above x x ≡ false
  pub transitive : (x y z : T) → above x y ≡ true → above y z ≡ true → above x z ≡ true
  -- .. in which what ranks above a third item also ranks above each that does not
  pub graded : (x y z : T) → above x z ≡ true → above y z ≡ false → above x y ≡ true
  -- likeness is an equivalence ..
  pub itself : (x : T) → alike x x ≡ true
  pub turned : (x y : T) → alike x y ≡ true → alike y x ≡ true
  pub joined : (x y z : T) → alike x y ≡ true → alike y z ≡ true → alike x z ≡ true
  -- .. and items that are alike have one rank
  pub level_above : (x y z : T) → alike x y ≡ true → above x z ≡ above y z
  pub level_below : (x y z : T) → alike x y ≡ true → above z x ≡ above z y
