-- The block of a proposal that breaks no rule stands on a held parent, of the next round, and there is room for it.
use Rattle.std.proofs.Common.{◌≡◌, ℕ, Bool, ◌+◌, ◌<◌, ◌≤◌, true, false, not, ◌&&◌, eqb, leb, List, length, is_some, IfSome, Some, None, Option, ap, ◌∙◌, inl, inr, arith, rules}
use Rattle.std.specs.Str.{bytes_eq}
use Rattle.std.proofs.lemmas.Slice.Eq.{bytes_eq-Decides}
use Rattle.std.proofs.lemmas.Bool.Decides.{nat_tests}
use Rattle.std.proofs.lemmas.Bool.{true≢false, and_parts, cases_Bool, cond-true, cond-false, eqb-true, not-false}
use Rattle.digest.specs.Digest.{digest}
use Rattle.blocks.specs.declared.statement.Statement.{Statement}
use Rattle.blocks.proofs.SameStatements.{same_equal}
use Rattle.table.specs.declared.held.Held.{Held}
use Rattle.table.specs.Laws.{Found}
use Rattle.table.specs.Places.{at, lookup, statement_of}
use Rattle.table.proofs.Lookups.{finds}
use Rattle.wire.specs.Messages.{BlockPart}
use Rattle.member.specs.declared.state.Member.{Member}
use Rattle.member.specs.declared.state.Site.{Site}
use Rattle.member.specs.declared.sizes.Lengths.{Lengths}
use Rattle.member.specs.BlockRules.{follows, differs, mismatched, missing}
use Rattle.member.specs.Deliver.{is_held, held_block, hold_table, hold_count}
use Rattle.member.specs.Exit.{place_of}
use Rattle.member.specs.See.{or_last}
use Rattle.member.specs.Sizes.{sized}
use Rattle.laws.proofs.Links.{Placed, TableLeft, unheld, holds}

-- the table has 2 places or more, as many as at set up
pub sized_table : (s : Site) (k : Lengths) → sized s k ≡ true → k.table ≡ s.places
sized_table s k e = grind (arith, nat_tests)

pub sized_some : (s : Site) (k : Lengths) → sized s k ≡ true → 2 ≤ k.table
sized_some s k e = search rules

-- the held block that a statement speaks of
record Parent (held : ℕ) (t : List Held) (s : Statement) (i : ℕ) : Type 0 where
  within : i < held
  stated : s ≡ statement_of (at t i)

parent_of : (held : ℕ) (t : List Held) (s : Statement) (o : Option ℕ) → not (is_some o) ≡ false → differs t s o ≡ false → IfSome o (Found t held s.id) → Parent held t s (or_last o 0)
parent_of held t s None none same f = absurd (true≢false none)
parent_of held t s (Some i) none same f = record { within = f.within; stated = same_equal s (statement_of (at t i)) (not-false _ same) }

-- a place is free where a new block has room
free : (held places long : ℕ) (known : Bool) → long ≡ places → known ≡ false → (not known && leb places held) ≡ false → held < long
free held places long known e new room = grind (arith, nat_tests)

module _ (m : Member) (t : List Held) (b : BlockPart) (s : Statement) (long : length t ≡ m.site.places) (there : missing t m.held s ≡ false)
    (matches : mismatched t m.held s ≡ false) (follow : follows b.head s ≡ true) (room : (not (is_held m t (digest b.bytes)) && leb m.site.places m.held) ≡ false) where
  placed : is_held m t (digest b.bytes) ≡ false → Placed m t (held_block b (place_of t m.held s))
  placed new =
      let p = parent_of m.held t s (lookup t m.held s.id) there matches (finds t s.id m.held).right in
      let both = and_parts (eqb b.head.round.0 (s.round.0 + 1)) (bytes_eq b.head.parent s.id) follow in
      record {
        free = free m.held m.site.places (length t) (is_held m t (digest b.bytes)) long new room;
        below = p.within;
        rounds = eqb-true b.head.round.0 (s.round.0 + 1) both.0 ∙ ap (λ x. x.round.0 + 1) p.stated;
        named = (bytes_eq-Decides b.head.parent s.id).0 both.1 ∙ ap (λ x. x.id) p.stated;
      }

  pub table_left : (m' : Member) → m'.held ≡ hold_count m t b → TableLeft m t m' (hold_table m t b s)
  table_left m' is = elim (cases_Bool (is_held m t (digest b.bytes))) [
    | inl old ↦
        unheld (cond-true (is_held m t (digest b.bytes)) t _ old) (is ∙ cond-true (is_held m t (digest b.bytes)) m.held (m.held + 1) old)
    | inr new ↦
        holds (held_block b (place_of t m.held s)) (placed new) (cond-false (is_held m t (digest b.bytes)) t _ new)
        (is ∙ cond-false (is_held m t (digest b.bytes)) m.held (m.held + 1) new)
  ]
