-- Four members, of whom the first three send items that are alike, and then the second sends its own again.
use Rattle.std.specs.Prelude.{◌≡◌, Bool, true, false, [], ◌∷◌, replicate, None, Ok, Err}
use Rattle.tally.specs.declared.places.Refused.TheVariants.{Held}
use Rattle.tally.specs.Puts.{answers_to}

-- the third reaches a threshold of 3, and the repeat is refused
abbrev pub ThirdReaches : {T : Type 0} (above alike : T → T → Bool) → Type 0
ThirdReaches {T} above alike =
    (x y z : T) → alike x y ≡ true → alike y z ≡ true → answers_to above alike 3 (replicate 4 None) ((0, x) ∷ (1, y) ∷ (2, z) ∷ (1, y) ∷ []) ≡ Ok false ∷ Ok false ∷ Ok true ∷ Err Held ∷ []
