use Rattle.std.proofs.Common.{◌≡◌, ◌+◌, length}
use Rattle.std.specs.Slice.Iter.{chunks_exact_rest, chunks_exact_size}
use Rattle.wire.proofs.EntrySteps.{Left}
use Rattle.wire.proofs.entries.Wanted.are_entries.Given as goal

-- the entries that are left decide
abbrev pub invariant-loop-entry : goal.invariant-loop-entry
invariant-loop-entry l =
    (goal.iterator-loop-entry).can_next l.entry-iterator
    × (goal.iterator-loop-entry).is_finite l.entry-iterator
    × (chunks_exact_size l.entry-iterator ≡ 1 + l.self.wide)
    × Left l.self.members l.self.limit l.self.wide l.self.count l.bytes (length l.yielded) l.last (chunks_exact_rest l.entry-iterator)
