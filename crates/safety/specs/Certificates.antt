-- Certified, official and committed blocks.
use Rattle.std.specs.Prelude.{◌≡◌, ℕ, ◌⊎◌, List}
use Rattle.safety.specs.Lists.{◌∈◌}
use Rattle.safety.specs.Committees.{Quorum}
use Rattle.safety.specs.Runs.{Run, Honest, Fallback, Extends, grandparent}

module _ {Block : Type 0} (r : Run Block) where
  open r use {committee, genesis, parent, view, proposer, winner, votes}

  -- a quorum signed for b, and the honest members in it voted for b
  pub record Certificate (b : Block) : Type 0 where
    pub signers : List ℕ
    pub quorum : Quorum committee signers
    pub voted : (m : ℕ) → m ∈ signers → Honest r m → b ∈ votes m

  -- genesis is certified from the start
  abbrev pub Certified : Block → Type 0
  Certified b = (b ≡ genesis) ⊎ Certificate b

  -- proposed by the winner of its view
  abbrev pub ByWinner : Block → Type 0
  ByWinner b = proposer b ≡ winner (view b)

  -- a certified regular block, or a certified fallback block by the winner of its view
  pub record Official (b : Block) : Type 0 where
    pub certified : Certified b
    pub by_winner : Fallback r b → ByWinner b

  -- b is the grandparent of an official block, and the three are of one view
  pub record DirectlyCommitted (b : Block) : Type 0 where
    pub last : Block
    pub official : Official last
    pub grandparent : grandparent r last ≡ b
    pub view_last : view last ≡ view b
    pub view_between : view (parent last) ≡ view b

  -- with a block all its ancestors commit
  pub record Committed (b : Block) : Type 0 where
    pub head : Block
    pub direct : DirectlyCommitted head
    pub under : Extends r head b
