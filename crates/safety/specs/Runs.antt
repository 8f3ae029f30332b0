-- What safety sees of a run: the committee, the blocks, each view's winner, and the votes of the honest members. A block's kind is told by
-- its height, which is 0 for a regular block.
use Rattle.std.specs.Prelude.{◌≡◌, ℕ, ◌<◌, T, List}
use Rattle.safety.specs.Committees.{Committee}

pub record Run (Block : Type 0) : Type 0 where
  pub committee : Committee
  pub genesis : Block
  pub parent : Block → Block
  pub view : Block → ℕ
  pub round : Block → ℕ
  pub proposer : Block → ℕ
  -- of a fallback block its place in its proposer's chain of that view, from 1
  pub height : Block → ℕ
  -- the member that a view's coin elects
  pub winner : ℕ → ℕ
  -- what an honest member voted for, in the order cast
  pub votes : ℕ → List Block

module _ {Block : Type 0} (r : Run Block) where
  open r use {committee, genesis, parent, view, round, height}

  abbrev pub Honest : ℕ → Type 0
  Honest m = T (committee.honest m)

  abbrev pub grandparent : Block → Block
  grandparent b = parent (parent b)

  abbrev pub Regular : Block → Type 0
  Regular b = height b ≡ 0

  abbrev pub Fallback : Block → Type 0
  Fallback b = 0 < height b

  -- genesis is regular, of view 0 and round 0, and its own parent
  pub record StartsAtGenesis : Type 0 where
    pub own_parent : parent genesis ≡ genesis
    pub regular : Regular genesis
    pub view_0 : view genesis ≡ 0
    pub round_0 : round genesis ≡ 0

  -- c extends b: b is c itself or an ancestor of c
  pub data Extends : Block → Block → Type 0 where
    itself : {c b : Block} → c ≡ b → Extends c b
    by_parent : {c b : Block} → Extends (parent c) b → Extends c b
