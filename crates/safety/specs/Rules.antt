-- The rules that the votes of an honest member keep.
use Rattle.std.specs.Prelude.{◌≡◌, ℕ, suc, ◌<◌, ◌≤◌, List}
use Rattle.safety.specs.Lists.{◌∈◌, Before}
use Rattle.safety.specs.Committees.{FewFaults}
use Rattle.safety.specs.Ranks.{◌≼◌, rank}
use Rattle.safety.specs.Runs.{Run, Honest, Regular, Fallback, StartsAtGenesis, grandparent}
use Rattle.safety.specs.Certificates.{Certified, Official, ByWinner}

module _ {Block : Type 0} (r : Run Block) where
  open r use {committee, parent, view, round, proposer, height, votes}

  -- a regular block or the first of a fallback chain: the lock decides on a vote for it
  abbrev pub Opening : Block → Type 0
  Opening b = height b ≤ 1

  -- a fallback block further up its chain
  abbrev pub Continuing : Block → Type 0
  Continuing b = 2 ≤ height b

  pub record StandsOnOfficial (b : Block) : Type 0 where
    -- the parent is genesis, certified regular, or certified fallback by its view's winner
    pub official : Official r (parent b)
    -- it is of no later view
    pub no_later_view : view (parent b) ≤ view b
    -- if it is a fallback block, it is of an earlier view
    pub fallback_is_past : Fallback r (parent b) → view (parent b) < view b

  -- the parent is the certified block just below in the same fallback chain, whoever will win
  pub record StandsInChain (b : Block) : Type 0 where
    pub certified : Certified r (parent b)
    pub same_view : view (parent b) ≡ view b
    pub same_proposer : proposer (parent b) ≡ proposer b
    pub one_below : suc (height (parent b)) ≡ height b

  -- what an honest member votes for
  pub record Votable (b : Block) : Type 0 where
    -- the round is the parent's + 1; so b is not genesis
    pub round_follows : round b ≡ suc (round (parent b))
    -- a regular or height-1 block stands on an official block
    pub opens : Opening b → StandsOnOfficial b
    -- a block of height 2 or 3 stands on the one below it in its chain
    pub continues : Continuing b → StandsInChain b

  -- leaving the view of x, the member sees the highest certificate that it has recorded of x's chain, and locks the parent of the block
  -- that is certified; y keeps that lock
  pub record ExitLock (x y : Block) : Type 0 where
    pub seen : Block
    pub certified : Certified r seen
    pub fallback : Fallback r seen
    pub same_view : view seen ≡ view x
    pub same_proposer : proposer seen ≡ proposer x
    pub covers_parent : rank r (parent x) ≼ rank r seen
    pub lock_kept : rank r (parent seen) ≼ rank r (parent y)

  -- one honest member votes for x and later for y
  pub record VotesInOrder (x y : Block) : Type 0 where
    -- the view never falls
    pub views_never_fall : view x ≤ view y
    -- within a view, no regular vote follows a fallback vote
    pub no_regular_after_fallback : view x ≡ view y → Fallback r x → Fallback r y
    -- regular votes are for rising rounds, across all views
    pub rounds_rise : Regular r x → Regular r y → round x < round y
    -- fallback votes for one proposer in one view are for rising heights
    pub heights_rise : Fallback r x → Fallback r y → view x ≡ view y → proposer x ≡ proposer y → height x < height y
    -- a regular or height-1 vote locks the block's grandparent: the next such block has a parent that ranks no lower
    pub lock_kept : Opening x → Opening y → rank r (grandparent r x) ≼ rank r (parent y)
    -- a height-2 or height-3 vote in the winner's chain locks too, once its view is left
    pub exit_lock_kept : Continuing x → ByWinner r x → Opening y → view x < view y → ExitLock x y
    -- a vote in the winner's chain counts as a vote for its round, once its view is left
    pub exit_round_kept : Fallback r x → ByWinner r x → Regular r y → view x < view y → round x < round y

  -- of one member's votes, in the order cast
  pub record KeepsTheRules (cast : List Block) : Type 0 where
    pub votable : (b : Block) → b ∈ cast → Votable b
    pub ordered : (x y : Block) → Before cast x y → VotesInOrder x y

  abbrev pub HonestKeepTheRules : Type 0
  HonestKeepTheRules = (m : ℕ) → Honest r m → KeepsTheRules (votes m)

  -- what is assumed of a run
  pub record Lawful : Type 0 where
    pub few_faults : FewFaults committee
    pub start : StartsAtGenesis r
    pub rules : HonestKeepTheRules
