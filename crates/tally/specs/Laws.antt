-- What a tally comes to, over whole lists of puts.
use Rattle.std.specs.Prelude.{◌≡◌, ℕ, ◌+◌, ◌≤◌, Bool, true, ◌⊎◌, List, [], ◌∷◌, length, Some, None, Ok, Err, Option, slice_index_or}
use Rattle.std.specs.List.{ContainsAt as Has, AllByRecursion}
use Rattle.tally.specs.declared.places.Refused.{Refused}
use Rattle.tally.specs.Walk.{kept_alike, weighed, weight_of}
use Rattle.tally.specs.Puts.{put_to, judged, after_puts}

-- place i holds item x
abbrev pub Kept : {T : Type 0} → List (Option T) → ℕ → T → Type 0
Kept places i x = slice_index_or places i None ≡ Some x

-- the places of a walk are `low` or above, and rise strictly
abbrev pub Rising : {T : Type 0} → ℕ → List (ℕ × T) → Type 0
Rising low [] = Unit {0}
Rising low (kept ∷ walk) = (low ≤ kept.0) × Rising (kept.0 + 1) walk

-- a walk meets all items alike to x that are kept at `from` or above, and no others, place by place
pub record Walk {T : Type 0} (alike : T → T → Bool) (x : T) (places : List (Option T)) (from : ℕ) (walk : List (ℕ × T)) : Type 0 where
  pub rising : Rising from walk
  pub kept : AllByRecursion (λ one. Kept places one.0 one.1 × (alike one.1 x ≡ true)) walk
  pub whole : (i : ℕ) (y : T) → from ≤ i → Kept places i y → alike y x ≡ true → Has walk (i, y)

module _ {T : Type 0} (above alike : T → T → Bool) where
  -- the item kept in a place never falls in rank: it stays, or gives way to one that ranks above it
  abbrev pub NeverFalls : Type 0
  NeverFalls =
      (places : List (Option T)) (puts : List (ℕ × T)) (i : ℕ) (x : T) → Kept places i x → (y : T) × Kept (after_puts above places puts) i y × ((y ≡ x) ⊎ (above y x ≡ true))

  -- a place holds only what it held before or was given
  abbrev pub OnlyGiven : Type 0
  OnlyGiven =
      (places : List (Option T)) (puts : List (ℕ × T)) (i : ℕ) (x : T) → Kept (after_puts above places puts) i x → Kept places i x ⊎ Has puts (i, x)

  -- a refused put changes nothing
  abbrev pub RefusedKeepsAll : Type 0
  RefusedKeepsAll =
      (places : List (Option T)) (i : ℕ) (x : T) (threshold : ℕ) (why : Refused) → judged above alike places i x threshold ≡ Err why → put_to above places i x ≡ places

  -- what is walked is what is kept
  abbrev pub WalksAll : Type 0
  WalksAll = (places : List (Option T)) (from : ℕ) (x : T) → Walk alike x places from (kept_alike alike x places from)

  -- with a weight of 1 for each place, what is walked is as long as the weights together
  abbrev pub CountsWalked : Type 0
  CountsWalked = (places : List (Option T)) (x : T) → weighed alike x weight_of places ≡ length (kept_alike alike x places 0)

  -- where a put reaches the threshold, exactly that many places then hold an item alike to it
  abbrev pub ReachedByThatMany : Type 0
  ReachedByThatMany =
      (places : List (Option T)) (i : ℕ) (x : T) (threshold : ℕ) → judged above alike places i x threshold ≡ Ok true → Walk alike x (put_to above places i x) 0 (kept_alike alike x (put_to above places i x) 0) × (length (kept_alike alike x (put_to above places i x) 0) ≡ threshold)

  pub record Laws : Type 0 where
    pub never_falls : NeverFalls
    pub only_given : OnlyGiven
    pub refused_keeps_all : RefusedKeepsAll
    pub walks_all : WalksAll
    pub counts_walked : CountsWalked
    pub reached_by_that_many : ReachedByThatMany
