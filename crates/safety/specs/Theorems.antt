-- What is proved.
use Rattle.std.specs.Prelude.{◌≡◌, ℕ, ◌+◌, ◌*◌, ◌<◌, ◌≤◌, T, ◌⊎◌, List, length}
use Rattle.safety.specs.Lists.{◌∈◌, total}
use Rattle.safety.specs.Committees.{Committee, FewFaults, Quorum, Counted, total_weight}
use Rattle.safety.specs.Ranks.{◌≼◌, rank}
use Rattle.safety.specs.Runs.{Run, Honest, Regular, Fallback, Extends}
use Rattle.safety.specs.Certificates.{Certificate, Certified, Official, DirectlyCommitted, Committed}
use Rattle.safety.specs.Rules.{Lawful}

-- two quorums have an honest member in common
abbrev pub QuorumsMeet : Type 0
QuorumsMeet =
    (c : Committee) → FewFaults c → (s t : List ℕ) → Quorum c s → Quorum c t → (m : ℕ) × T (c.honest m) × (m ∈ s) × (m ∈ t)

-- where votes are counted, less than a third is tolerated, and members have the weight of a quorum exactly if they are at least q
pub record CountsAQuorum (f q : ℕ) : Type 0 where
  pub third : (c : Committee) → Counted c f → 3 * c.faults < total_weight c
  pub enough : (c : Committee) → Counted c f → (s : List ℕ) → q ≤ length s → total_weight c ≤ total c.weight s + c.faults
  pub needed : (c : Committee) → Counted c f → (s : List ℕ) → total_weight c ≤ total c.weight s + c.faults → q ≤ length s

-- of every run for which the assumption holds
module _ (Block : Type 0) (Assumed : Run Block → Type 0) where
  -- some honest member voted for both of two blocks that have certificates
  abbrev pub CommonVoter : Type 0
  CommonVoter =
      (r : Run Block) → Assumed r → (x y : Block) → Certificate r x → Certificate r y →
      (m : ℕ) × Honest r m × (x ∈ r.votes m) × (y ∈ r.votes m)

  -- across all views, a round has one certified regular block at most
  abbrev pub OneRegularPerRound : Type 0
  OneRegularPerRound =
      (r : Run Block) → Assumed r → (x y : Block) → Certified r x → Certified r y → Regular r x → Regular r y →
      r.round x ≡ r.round y → x ≡ y

  -- a view and proposer have one certified fallback block of each height at most
  abbrev pub OneFallbackPerHeight : Type 0
  OneFallbackPerHeight =
      (r : Run Block) → Assumed r → (x y : Block) → Certified r x → Certified r y → Fallback r x → Fallback r y →
      r.view x ≡ r.view y → r.proposer x ≡ r.proposer y → r.height x ≡ r.height y → x ≡ y

  -- every official block that ranks no lower than a directly committed block extends it
  abbrev pub CommitsAreFinal : Type 0
  CommitsAreFinal =
      (r : Run Block) → Assumed r → (b c : Block) → DirectlyCommitted r b → Official r c → rank r b ≼ rank r c → Extends r c b

  -- of two committed blocks one extends the other
  abbrev pub OneChain : Type 0
  OneChain = (r : Run Block) → Assumed r → (b c : Block) → Committed r b → Committed r c → Extends r b c ⊎ Extends r c b

  -- committed blocks of one round are equal
  abbrev pub OneCommitPerRound : Type 0
  OneCommitPerRound =
      (r : Run Block) → Assumed r → (b c : Block) → Committed r b → Committed r c → r.round b ≡ r.round c → b ≡ c

-- the assumptions can be met, with commits in two views
abbrev pub SomeRunCommits : Type 0
SomeRunCommits =
    (r : Run ℕ) × Lawful r × ((b : ℕ) × DirectlyCommitted r b × (r.view b ≡ 0)) × ((b : ℕ) × DirectlyCommitted r b × (r.view b ≡ 1))
