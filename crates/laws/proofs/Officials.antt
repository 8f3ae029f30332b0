-- Which certificates are official, from the rules that are not broken.
use Rattle.std.proofs.Common.{◌≡◌, ℕ, ◌<◌, Bool, true, false, not, ◌||◌, ◌⊎◌, List, Some, None, Option, refl, inl, inr, arith, rules}
use Rattle.std.proofs.lemmas.Bool.Decides.{nat_tests}
use Rattle.std.proofs.lemmas.Bool.{not-false, or_parts, eqb-true}
use Rattle.blocks.specs.declared.head.Head.{Head}
use Rattle.blocks.specs.declared.rank.Kind.{Kind}
use Rattle.blocks.specs.declared.rank.Kind.TheVariants.{Regular, Fallback}
use Rattle.blocks.specs.declared.rank.View.{View}
use Rattle.blocks.specs.declared.statement.Statement.{Statement}
use Rattle.table.specs.declared.held.Held.{Held}
use Rattle.member.specs.declared.state.Member.{Member}
use Rattle.member.specs.BlockRules.{led, follows, opens, stands, mismatched, proposal_breaks}
use Rattle.member.specs.Deliver.{ahead, past, of_fallback, sees_under}
use Rattle.member.specs.See.{is_fallback, is_winner, unendorsed}
use Rattle.member.specs.States.{winner_of}
use Rattle.laws.specs.Official.{Official, regular, endorsed}
use Rattle.laws.proofs.Readings.{Tall}

is_winner_lem : (o : Option ℕ) (p : ℕ) → is_winner o p ≡ true → o ≡ Some p
is_winner_lem None p e = cc
is_winner_lem (Some w) p e = let same = eqb-true w p e in cc

pub cases_kind : (k : Kind) → (k ≡ Regular) ⊎ ((k ≡ Fallback) × (is_fallback k ≡ true))
cases_kind Regular = inl refl
cases_kind Fallback = inr (refl, refl)

-- an unendorsed statement is of a view that is past
pub unendorsed_past : (m : Member) (s : Statement) → unendorsed m s ≡ true → past m s.view ≡ true
unendorsed_past m s u = search rules

module _ (m : Member) (s : Statement) where
  noted : is_fallback s.kind ≡ true → s.view.0 < m.phase.view.0 → unendorsed m s ≡ false → winner_of m s.view.0 ≡ Some s.proposer
  noted f low u = is_winner_lem (winner_of m s.view.0) s.proposer (grind (arith, nat_tests))

  -- what is carried, not unendorsed, and if fallback of an earlier view
  pub official : (m' : Member) → (is_fallback s.kind ≡ true → s.view.0 < m.phase.view.0) → unendorsed m s ≡ false → Official m m' (Some s) s
  official m' low u = elim (cases_kind s.kind) [
    | inl r ↦ regular refl r
    | inr f ↦ endorsed refl f.0 (low f.1) (noted f.1 (low f.1) u)
  ]

  -- where it is not of this view's fallback
  pub not_this_view : ahead m s.view ≡ false → of_fallback m s ≡ false → is_fallback s.kind ≡ true → s.view.0 < m.phase.view.0
  not_this_view near other f = grind (arith, nat_tests)

-- a fallback certificate under a regular or height-1 block, or in a timeout, is of an earlier view than that
pub in_timeout : (m : Member) (v : View) (s : Statement) (broken : Bool) → ahead m v ≡ false → (not (opens v s) || broken) ≡ false → is_fallback s.kind ≡ true → s.view.0 < m.phase.view.0
in_timeout m v s broken near broken_not f = grind (arith, nat_tests)

module _ (m : Member) (n : ℕ) (table : List Held) (h : Head) (s : Statement) (near : ahead m h.view ≡ false) (rules : proposal_breaks n table m.held h s ≡ false) where
  pub following : follows h s ≡ true
  following = grind (arith, nat_tests)

  rest : (not (stands h s) || mismatched table m.held s) ≡ false
  rest = (or_parts (not (follows h s)) _ (or_parts (not (led n h)) _ rules).1).1

  standing : stands h s ≡ true
  standing = not-false _ (or_parts (not (stands h s)) _ rest).0

  pub matching : mismatched table m.held s ≡ false
  matching = (or_parts (not (stands h s)) _ rest).1

  pub under_block : Tall h → sees_under m h ≡ true → is_fallback s.kind ≡ true → s.view.0 < m.phase.view.0
  under_block tall sees f = let on = standing in grind (arith, nat_tests)
