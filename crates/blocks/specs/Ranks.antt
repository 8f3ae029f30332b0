-- Views, rounds and kinds; the order of ranks; who leads a round.
use Rattle.std.specs.Prelude.{◌≡◌, ℕ, ◌+◌, ◌-◌, ◌/◌, ◌%◌, ◌<◌, Bool, true, false, cond, ◌&&◌, ◌||◌, ◌⊎◌, Some, None, Decides, Option, Result, MatchResult, ◌==◌, nat_lt}
use Rattle.blocks.specs.declared.rank.Kind.{Kind}
use Rattle.blocks.specs.declared.rank.Kind.TheVariants.{Regular, Fallback}
use Rattle.blocks.specs.declared.rank.NoKind.{NoKind}
use Rattle.blocks.specs.declared.rank.View.{View}
use Rattle.blocks.specs.declared.rank.Round.{Round}
use Rattle.blocks.specs.declared.rank.Rank.{Rank}
use Rattle.blocks.specs.Limits.{rounds_led}

-- the byte of each kind
abbrev pub kind_number : Kind → ℕ
kind_number Regular = 0
kind_number Fallback = 1

-- the kind of a byte; no other byte than 0 and 1 has the form of one
abbrev pub kind_of : ℕ → Kind
kind_of b = cond (b == 0) Regular Fallback

-- what a byte is read as: the kind that it is the byte of, or else the byte, which is of none
abbrev pub KindRead : ℕ → Result Kind NoKind → Type 0
KindRead byte r = MatchResult r (λ kind. kind_number kind ≡ byte) (λ e. (e.0 ≡ byte) × (1 < byte))

abbrev pub view : ℕ → View
view v = record { 0 = v }

abbrev pub round : ℕ → Round
round r = record { 0 = r }

-- ranks are compared from the left: by view, then kind, then round
abbrev pub less_rank : Rank → Rank → Bool
less_rank a b =
    nat_lt a.view.0 b.view.0
    || (a.view.0 == b.view.0
    && (nat_lt (kind_number a.kind) (kind_number b.kind)
    || (kind_number a.kind == kind_number b.kind && nat_lt a.round.0 b.round.0)))

-- the same in words: of the lower view; or in one view a regular block's under a fallback block's; or of one view and kind and
-- of the lower round
pub data Below (a b : Rank) : Type 0 where
  by_view : a.view.0 < b.view.0 → Below a b
  by_kind : a.view ≡ b.view → a.kind ≡ Regular → b.kind ≡ Fallback → Below a b
  by_round : a.view ≡ b.view → a.kind ≡ b.kind → a.round.0 < b.round.0 → Below a b

-- of two ranks one is below the other unless they are equal, and what is below a lower rank is below the higher
pub record RanksOrdered : Type 0 where
  pub compared : (a b : Rank) → Decides (less_rank a b) (Below a b)
  pub irreflexive : (a : Rank) → less_rank a a ≡ false
  pub transitive : (a b c : Rank) → less_rank a b ≡ true → less_rank b c ≡ true → less_rank a c ≡ true
  pub total : (a b : Rank) → (less_rank a b ≡ true) ⊎ ((a ≡ b) ⊎ (less_rank b a ≡ true))

-- the leader of round r among n members: each leads four rounds in a row
abbrev pub leader : ℕ → ℕ → ℕ
leader n r = (r - 1) / rounds_led % n + 1

-- nobody leads where there is no member
abbrev pub leading : ℕ → ℕ → Option ℕ
leading n r = cond (n == 0) None (Some (leader n r))
