-- Ranks.
use Rattle.std.specs.Prelude.{◌≡◌, ℕ, ◌≤◌, min}
use Rattle.safety.specs.Runs.{Run}

pub record Rank : Type 0 where
  pub view : ℕ
  -- 0 regular, 1 fallback
  pub kind : ℕ
  pub round : ℕ

-- ranks compare by view, then kind, then round
infix 50 ◌≼◌
pub record ◌≼◌ (a b : Rank) : Type 0 where
  pub views : a.view ≤ b.view
  pub kinds : a.view ≡ b.view → a.kind ≤ b.kind
  pub rounds : a.view ≡ b.view → a.kind ≡ b.kind → a.round ≤ b.round

abbrev pub rank : {Block : Type 0} → Run Block → Block → Rank
rank r b = record { view = r.view b; kind = min 1 (r.height b); round = r.round b }
