-- The moves of an honest member: when each may be made, what it votes for, and the state after it.
use Rattle.std.specs.Prelude.{◌≡◌, ◌<◌, ◌≤◌, ◌⊎◌, List, [], ◌∷◌, ◌++◌, Some, None, Option}
use Rattle.safety.specs.Ranks.{◌≼◌, rank}
use Rattle.safety.specs.Runs.{Run, Regular, Fallback, grandparent}
use Rattle.safety.specs.Certificates.{Certified, Official}
use Rattle.safety.specs.Rules.{Opening, Continuing, Votable}
use Rattle.history.specs.States.{steady, timedout, fallback, State, start_state}
use Rattle.history.specs.Effects.{with_stage, after_see, after_record, after_regular_vote, after_fallback_vote, after_exit}

-- there is one, and P holds of it
abbrev pub Holds : {Block : Type 0} → Option Block → (Block → Type 0) → Type 0
Holds None P = ⊥
Holds (Some c) P = P c

module _ {Block : Type 0} (r : Run Block) where
  open r use {parent, view, round, height, proposer}

  pub record MaySee (s : State Block) (c : Block) : Type 0 where
    -- genesis, certified regular, or certified fallback by its view's winner
    pub official : Official r c
    pub no_later_view : view c ≤ s.view
    -- a fallback certificate is seen only when its view is past
    pub fallback_is_past : Fallback r c → view c < s.view

  -- a fallback certificate of this view is recorded, whoever proposed the block
  pub record MayRecord (s : State Block) (c : Block) : Type 0 where
    pub certified : Certified r c
    pub is_fallback : Fallback r c
    pub this_view : view c ≡ s.view
    pub in_fallback : s.stage ≡ fallback

  pub record RespectsLock (s : State Block) (b : Block) : Type 0 where
    -- b's parent ranks no lower than the lock
    pub above_lock : s.lock ≼ rank r (parent b)
    -- the parent's certificate has been seen
    pub parent_seen : rank r (grandparent r b) ≼ s.lock

  pub record MayVoteRegular (s : State Block) (b : Block) : Type 0 where
    pub votable : Votable r b
    pub regular : Regular r b
    pub in_steady : s.stage ≡ steady
    pub this_view : view b ≡ s.view
    pub new_round : s.voted_round < round b
    pub lock : RespectsLock s b

  pub record ContinuesRow (s : State Block) (b : Block) : Type 0 where
    -- the round is above the one last voted for in the row
    pub new_round : (s.rows (proposer b)).voted_round < round b
    -- the parent's certificate, or a higher one, has been recorded in the row
    pub parent_recorded : Holds (s.rows (proposer b)).highest (λ c. rank r (parent b) ≼ rank r c)

  pub record MayVoteFallback (s : State Block) (b : Block) : Type 0 where
    pub votable : Votable r b
    pub is_fallback : Fallback r b
    pub in_fallback : s.stage ≡ fallback
    pub this_view : view b ≡ s.view
    pub new_height : (s.rows (proposer b)).voted_height < height b
    pub opens : Opening r b → RespectsLock s b
    pub continues : Continuing r b → ContinuesRow s b

  -- from a state, casting these votes, to a state
  pub data Move (s : State Block) : List Block → State Block → Type 0 where
    sees : (c : Block) → MaySee s c → Move s [] (after_see r s c)
    records : (c : Block) → MayRecord s c → Move s [] (after_record r s c)
    -- the timer has run out
    times_out : s.stage ≡ steady → Move s [] (with_stage s timedout)
    -- a quorum has timed out
    enters_fallback : (s.stage ≡ steady) ⊎ (s.stage ≡ timedout) → Move s [] (with_stage s fallback)
    votes_regular : (b : Block) → MayVoteRegular s b → Move s (b ∷ []) (after_regular_vote r s b)
    votes_fallback : (b : Block) → MayVoteFallback s b → Move s (b ∷ []) (after_fallback_vote r s b)
    -- the view's winner is known: to the next view, in any stage
    exits : Move s [] (after_exit r s)
    -- what bears on no vote
    others : Move s [] s

  infixl 40 ◌then◌
  -- one move after another, with the votes cast in their order
  pub data Moves (s : State Block) : List Block → State Block → Type 0 where
    start : Moves s [] s
    ◌then◌ : {votes cast : List Block} {t u : State Block} → Moves s votes t → Move t cast u → Moves s (votes ++ cast) u

  -- the votes that a member has cast from the start on, and its state now
  abbrev pub History : List Block → State Block → Type 0
  History votes s = Moves start_state votes s
