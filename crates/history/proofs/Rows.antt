-- Rows, and the block that a row may hold.
use Rattle.std.proofs.Common.{◌≡◌, ℕ, eqb, Some, None, Option, refl}
use Rattle.safety.specs.Ranks.{◌≼◌, rank}
use Rattle.safety.specs.Runs.{Run}
use Rattle.safety.proofs.Ranks.{≼_refl, ≼_trans}
use Rattle.history.specs.States.{Row}
use Rattle.history.specs.Effects.{with_row, ranks_below, higher_block}
use Rattle.history.specs.Moves.{Holds}
use Rattle.history.proofs.Ranks.{below_true, below_false}
use Rattle.std.proofs.lemmas.Bool.{cond_both, eqb-true, eqb-false}

-- if there is one, it is such
abbrev pub All : {Block : Type 0} → Option Block → (Block → Type 0) → Type 0
All None P = Unit {0}
All (Some c) P = P c

-- a row is the one that was put in, or one of the others
pub row_cases : {Block : Type 0} (P : Row Block → Type 0) (rows : ℕ → Row Block) (p : ℕ) (row : Row Block) (q : ℕ) →
    (q ≡ p → P row) → ((q ≡ p → ⊥) → P (rows q)) → P (with_row rows p row q)
row_cases P rows p row q here else =
    cond_both (eqb q p) row (rows q) P (λ e. here (eqb-true q p e)) (λ e. else (eqb-false q p e))

pub row_put : {Block : Type 0} (P : Row Block → Type 0) (rows : ℕ → Row Block) (p : ℕ) {row : Row Block} → P row → P (with_row rows p row p)
row_put P rows p {row} k = row_cases P rows p row p (λ same. k) (λ other. absurd (other refl))

module _ {Block : Type 0} (r : Run Block) where
  -- what is held only rises
  pub higher_holds : (o : Option Block) (c b : Block) → Holds o (λ h. rank r b ≼ rank r h) → Holds (higher_block r o c) (λ h. rank r b ≼ rank r h)
  higher_holds None c b k = absurd k
  higher_holds (Some h) c b k =
      cond_both (ranks_below (rank r h) (rank r c)) c h (λ m. rank r b ≼ rank r m) (λ e. ≼_trans k (below_true _ _ e)) (λ e. k)

  -- and is no lower than what came last
  pub higher_new : (o : Option Block) (c : Block) → Holds (higher_block r o c) (λ h. rank r c ≼ rank r h)
  higher_new None c = ≼_refl _
  higher_new (Some h) c =
      cond_both (ranks_below (rank r h) (rank r c)) c h (λ m. rank r c ≼ rank r m) (λ e. ≼_refl _) (below_false _ _)

  pub higher_all : (P : Block → Type 0) (o : Option Block) (c : Block) → All o P → P c → All (higher_block r o c) P
  higher_all P None c a k = k
  higher_all P (Some h) c a k = cond_both (ranks_below (rank r h) (rank r c)) c h P (λ e. k) (λ e. a)
