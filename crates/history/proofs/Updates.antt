-- One row of a state changes.
use Rattle.std.proofs.Common.{ℕ, sym, refl, subst, arith}
use Rattle.safety.specs.Runs.{Run}
use Rattle.safety.proofs.Ranks.{≼_refl}
use Rattle.history.specs.States.{Row, State}
use Rattle.history.specs.Effects.{with_row, with_rows, after_record}
use Rattle.history.specs.Moves.{MayRecord}
use Rattle.history.proofs.Rows.{All, row_cases, higher_holds, higher_all}
use Rattle.history.proofs.Memory.{Recorded, Remembers, Remembered, RowsRecorded}
use Rattle.history.proofs.Keeps.{RowRises, in_this_view}

module _ {Block : Type 0} (r : Run Block) (s : State Block) where
  open r use {proposer}

  pub update_remembers : {p : ℕ} {row : Row Block} {x : Block} → RowRises r (s.rows p) row x → Remembered r s x →
      Remembered r (with_rows s (with_row s.rows p row)) x
  update_remembers {p} {row} {x} up m =
      row_cases (λ row. Remembers r s.view s.stage s.voted_round s.lock row x) s.rows p row (proposer x)
      (λ same.
      let here = subst (λ q. Remembers r s.view s.stage s.voted_round s.lock (s.rows q) x) same m in
      in_this_view r here (omega arith) (≼_refl _) (λ e. e) up)
      (λ other. m)

  pub update_recorded : (p : ℕ) (row : Row Block) → All row.highest (Recorded r s.view p) → RowsRecorded r s →
      RowsRecorded r (with_rows s (with_row s.rows p row))
  update_recorded p row new recorded q =
      row_cases (λ row. All row.highest (Recorded r s.view q)) s.rows p row q
      (λ same. subst (λ q. All row.highest (Recorded r s.view q)) (sym same) new)
      (λ other. recorded q)

  module _ (c : Block) where
    pub record_remembers : (x : Block) → Remembered r s x → Remembered r (after_record r s c) x
    record_remembers x =
        update_remembers (record {
          heights = omega arith;
          rounds = λ f h k. k;
          covers = higher_holds r (s.rows (proposer c)).highest c _;
        })

    pub record_recorded : MayRecord r s c → RowsRecorded r s → RowsRecorded r (after_record r s c)
    record_recorded may recorded =
        let new : Recorded r s.view (proposer c) c =
        record { certified = may.certified; is_fallback = may.is_fallback; this_view = may.this_view; this_proposer = refl } in
        update_recorded (proposer c) _ (higher_all r (Recorded r s.view (proposer c)) (s.rows (proposer c)).highest c (recorded (proposer c)) new) recorded
