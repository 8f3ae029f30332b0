-- The kept items alike to a given one, in rising order of place, and what their places weigh together.
use Rattle.std.specs.Prelude.{ℕ, ◌+◌, Bool, cond, List, [], ◌∷◌, ◌++◌, drop, Some, None, sum_by, Option}

-- what a walk meets at place i
abbrev pub met : {T : Type 0} → ℕ → Option T → List (ℕ × T)
met i None = []
met i (Some y) = (i, y) ∷ []

module _ {T : Type 0} (alike : T → T → Bool) (x : T) where
  -- what a place keeps, if that is alike to x
  abbrev pub if_alike : Option T → Option T
  if_alike None = None
  if_alike (Some y) = cond (alike y x) (Some y) None

  -- the walk over places that are numbered from i on
  abbrev pub alike_in : ℕ → List (Option T) → List (ℕ × T)
  alike_in i [] = []
  alike_in i (p ∷ ps) = met i (if_alike p) ++ alike_in (i + 1) ps

  -- the items alike to x that the places keep at `from` or above, each with its place
  abbrev pub kept_alike : List (Option T) → ℕ → List (ℕ × T)
  kept_alike places from = alike_in from (drop from places)

  -- the weights, together, of the places whose kept item is alike to x
  abbrev pub weighed : (ℕ → ℕ) → List (Option T) → ℕ
  weighed weight places = sum_by (λ kept. weight kept.0) (kept_alike places 0)

-- each place weighs 1, so that weights together are a count
abbrev pub weight_of : ℕ → ℕ
weight_of place = 1
