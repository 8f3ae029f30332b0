use Rattle.std.proofs.Common.{sym, ◌∙◌, arith}
use Rattle.std.proofs.lemmas.List.{length_push}
use Rattle.wire.proofs.EntrySteps.{stops, goes_on}
use Rattle.wire.proofs.entries.Wanted.are_entries.Goals as goal

pub returns-then-not-entry_formed : goal.returns-then-not-entry_formed
returns-then-not-entry_formed c =
    let next = c.in-Some.ensures.steps.1 in
    stops _ _ _ _ _ _ _ _ _ _ c.loop-entry.invariant.3 next.0 (next.1 ∙ c.loop-entry.invariant.2) (sym c.entry_formed.ensures ∙ c.if-not-entry_formed.true)

pub loop-entry-preserved : goal.loop-entry-preserved
loop-entry-preserved c =
    let steps = c.in-Some.ensures.steps in
    let next = steps.1 in
    let same = steps.0 ∙ c.loop-entry.invariant.2 in
    let left = goes_on _ _ _ _ _ _ _ _ _ _ _ _ c.loop-entry.invariant.3 next.0 (next.1 ∙ c.loop-entry.invariant.2) (sym c.entry_formed.ensures ∙ c.if-not-entry_formed.false) (length_push _ _) c.byte_at-last.ensures in
    (omega (arith, same), tt, same, left)
