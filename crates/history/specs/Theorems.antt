-- What is proved: a member that makes only its moves keeps the voting rules, and a committee whose honest members do so has one chain.
use Rattle.std.specs.Prelude.{◌≡◌, ℕ, List, [], ◌∷◌, map}
use Rattle.safety.specs.Committees.{FewFaults}
use Rattle.safety.specs.Runs.{Run, Honest, StartsAtGenesis}
use Rattle.safety.specs.Certificates.{DirectlyCommitted}
use Rattle.safety.specs.Rules.{KeepsTheRules, Lawful}
use Rattle.history.specs.States.{State}
use Rattle.history.specs.Moves.{History}

-- of one member
abbrev pub HistoryKeepsTheRules : Type 0 → Type 0
HistoryKeepsTheRules Block = (r : Run Block) (votes : List Block) (s : State Block) → History r votes s → KeepsTheRules r votes

-- each honest member has come by its votes by moves
abbrev pub HonestMakeMoves : {Block : Type 0} → Run Block → Type 0
HonestMakeMoves {Block} r = (m : ℕ) → Honest r m → (s : State Block) × History r (r.votes m) s

-- what is assumed of a run of moves
pub record ByMoves {Block : Type 0} (r : Run Block) : Type 0 where
  pub few_faults : FewFaults r.committee
  pub start : StartsAtGenesis r
  pub moves : HonestMakeMoves r

abbrev pub MovesKeepTheRules : Type 0 → Type 0
MovesKeepTheRules Block = (r : Run Block) → ByMoves r → Lawful r

-- the assumptions can be met: a block commits, and an honest member votes for a regular block, for heights 1 and 2 of a fallback chain, and
-- for a regular block of the next view
abbrev pub SomeRunMoves : Type 0
SomeRunMoves =
    (r : Run ℕ) × ByMoves r × ((b : ℕ) × DirectlyCommitted r b) × Honest r 1 ×
    (map r.view (r.votes 1) ≡ 0 ∷ 0 ∷ 0 ∷ 1 ∷ []) × (map r.height (r.votes 1) ≡ 0 ∷ 1 ∷ 2 ∷ 0 ∷ [])
