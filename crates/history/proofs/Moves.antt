-- Each move keeps what the state remembers, and casts at most one vote, in order with those before.
use Rattle.std.proofs.Common.{List, [], ◌∷◌, sym, refl, subst, inl, inr, arith}
use Rattle.safety.specs.Lists.{◌∈◌, Before}
use Rattle.safety.specs.Runs.{Run}
use Rattle.safety.specs.Rules.{Votable, VotesInOrder}
use Rattle.safety.proofs.Ranks.{≼_refl}
use Rattle.history.specs.States.{State}
use Rattle.history.specs.Moves.{Move, sees, records, times_out, enters_fallback, votes_regular, votes_fallback, exits, others}
use Rattle.history.proofs.Ranks.{higher_first}
use Rattle.history.proofs.Memory.{Remembered, RowsRecorded}
use Rattle.history.proofs.Keeps.{row_stays, in_this_view}
use Rattle.history.proofs.Updates.{update_recorded, record_remembers, record_recorded}
use Rattle.history.proofs.Exits.{exit_remembers}
use Rattle.history.proofs.Casts.{regular_in_order, regular_remembers, regular_remembered, fallback_in_order, fallback_remembers, fallback_remembered}

module _ {Block : Type 0} (r : Run Block) where
  open r use {proposer}

  pub record CastWell (s t : State Block) (b : Block) : Type 0 where
    pub votable : Votable r b
    pub in_order : (x : Block) → Remembered r s x → VotesInOrder r x b
    pub remembered : Remembered r t b

  pub record Keeps (s : State Block) (cast : List Block) (t : State Block) : Type 0 where
    pub remembers : (x : Block) → Remembered r s x → Remembered r t x
    pub recorded : RowsRecorded r t
    pub well : (b : Block) → b ∈ cast → CastWell s t b
    pub one_at_most : (x y : Block) → Before cast x y → ⊥

  casts_none : {s t : State Block} → ((x : Block) → Remembered r s x → Remembered r t x) → RowsRecorded r t → Keeps s [] t
  casts_none old rows = record { remembers = old; recorded = rows; well = λ b i. absurd i; one_at_most = λ x y i. i }

  casts_one : {s t : State Block} {b : Block} → ((x : Block) → Remembered r s x → Remembered r t x) → RowsRecorded r t → CastWell s t b →
      Keeps s (b ∷ []) t
  casts_one {s} {t} old rows new = record {
    remembers = old;
    recorded = rows;
    well = λ c i. elim i [ inl e ↦ subst (CastWell s t) (sym e) new | inr none ↦ absurd none ];
    one_at_most = λ x y i. elim i [ inl (e, none) ↦ none | inr none ↦ none ];
  }

  pub keeps : {s : State Block} {cast : List Block} {t : State Block} → Move r s cast t → RowsRecorded r s → Keeps s cast t
  keeps (sees c may) rows = casts_none (λ x m. in_this_view r m (omega arith) (higher_first _ _) (λ e. e) (row_stays r)) rows
  keeps {s} (records c may) rows = casts_none (record_remembers r s c) (record_recorded r s c may rows)
  keeps (times_out e) rows =
      casts_none (λ x m. in_this_view r m (omega arith) (≼_refl _) (λ f. absurd (cc)) (row_stays r)) rows
  keeps (enters_fallback e) rows = casts_none (λ x m. in_this_view r m (omega arith) (≼_refl _) (λ f. refl) (row_stays r)) rows
  keeps {s} (votes_regular b may) rows =
      casts_one (regular_remembers r s b may) rows
      (record { votable = may.votable; in_order = regular_in_order r s b may; remembered = regular_remembered r s b may })
  keeps {s} (votes_fallback b may) rows =
      casts_one (fallback_remembers r s b may) (update_recorded r s (proposer b) _ (rows (proposer b)) rows)
      (record { votable = may.votable; in_order = fallback_in_order r s b may; remembered = fallback_remembered r s b may })
  keeps {s} exits rows = casts_none (exit_remembers r s rows) (λ p. tt)
  keeps others rows = casts_none (λ x m. m) rows
