-- What a put answers and what the places hold after it.
use Rattle.std.specs.Prelude.{ℕ, Bool, true, cond, List, [], ◌∷◌, length, Some, None, Ok, Err, Option, Result, ◌==◌, nat_lt, slice_index_or, slice_set}
use Rattle.tally.specs.declared.places.Refused.{Refused}
use Rattle.tally.specs.declared.places.Refused.TheVariants.{NoPlace, Held}
use Rattle.tally.specs.Walk.{weighed, weight_of}

-- whether a place takes an item: it is empty, or holds one that the item ranks above
abbrev pub takes : {T : Type 0} → (T → T → Bool) → Option T → T → Bool
takes above None x = true
takes above (Some y) x = above x y

-- the places after item x came to place i
abbrev pub put_to : {T : Type 0} → (T → T → Bool) → List (Option T) → ℕ → T → List (Option T)
put_to above places i x =
    cond (nat_lt i (length places)) (cond (takes above (slice_index_or places i None) x) (slice_set places i (Some x)) places) places

-- the answer: whether the kept items alike to x then weigh exactly the threshold
abbrev pub judged : {T : Type 0} → (T → T → Bool) → (T → T → Bool) → List (Option T) → ℕ → T → ℕ → Result Bool Refused
judged above alike places i x threshold =
    cond
    (nat_lt i (length places))
    (cond (takes above (slice_index_or places i None) x) (Ok (weighed alike x weight_of (slice_set places i (Some x)) == threshold)) (Err Held))
    (Err NoPlace)

-- the places after a list of puts, each a place and an item
abbrev pub after_puts : {T : Type 0} → (T → T → Bool) → List (Option T) → List (ℕ × T) → List (Option T)
after_puts above places [] = places
after_puts above places (put ∷ puts) = after_puts above (put_to above places put.0 put.1) puts

-- the answers to a list of puts
abbrev pub answers_to : {T : Type 0} → (T → T → Bool) → (T → T → Bool) → ℕ → List (Option T) → List (ℕ × T) → List (Result Bool Refused)
answers_to above alike threshold places [] = []
answers_to above alike threshold places (put ∷ puts) =
    judged above alike places put.0 put.1 threshold ∷ answers_to above alike threshold (put_to above places put.0 put.1) puts
