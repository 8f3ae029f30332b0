-- The way up: from a block to its parent, and on to genesis at place 0.
use Rattle.std.specs.Prelude.{ℕ, zero, suc, Bool, cond, List, [], ◌∷◌, is_some, Some, None, Option, nat_eq}
use Rattle.table.specs.declared.ancestry.Ancestors.{Ancestors}
use Rattle.table.specs.declared.held.Held.{Held}
use Rattle.table.specs.Places.{at, up}

-- the round and the view of the block at a place
abbrev pub round_at : List Held → ℕ → ℕ
round_at table i = (at table i).head.round.0

abbrev pub view_at : List Held → ℕ → ℕ
view_at table i = (at table i).head.view.0

-- the first place that passes the test, from i on and at most n steps up
abbrev pub first_within : ℕ → List Held → (ℕ → Bool) → ℕ → Option ℕ
first_within zero table test i = cond (test i) (Some i) None
first_within (suc n) table test i = cond (test i) (Some i) (first_within n table test (up table i))

-- the first place on the way up from a that passes the test; each step leads to a lower place, so that a steps lead to the root
abbrev pub first_up : List Held → (ℕ → Bool) → ℕ → Option ℕ
first_up table test a = first_within a table test a

-- a block extends itself and all its ancestors
abbrev pub extends : List Held → ℕ → ℕ → Bool
extends table a b = is_some (first_up table (λ i. nat_eq i b) a)

-- the first place on the way up from a whose block is of the round
abbrev pub ancestor : List Held → ℕ → ℕ → Option ℕ
ancestor table a round = first_up table (λ i. nat_eq (round_at table i) round) a

-- the places on the way up from i to the root, at most n steps up
abbrev pub way_within : ℕ → List Held → ℕ → List ℕ
way_within zero table i = i ∷ []
way_within (suc n) table zero = zero ∷ []
way_within (suc n) table (suc i) = suc i ∷ way_within n table (up table (suc i))

-- the places on the way up from a, which comes first, to the root, which comes last
abbrev pub way_up : List Held → ℕ → List ℕ
way_up table a = way_within a table a

-- the same from a place that may not be
abbrev pub way_from : List Held → Option ℕ → List ℕ
way_from table None = []
way_from table (Some i) = way_up table i

-- the places that a walk has before it
abbrev pub places_left : Ancestors → List ℕ
places_left walk = way_from walk.table.now walk.next
