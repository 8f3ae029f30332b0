-- The memory that a member's calls are lent, and what it holds.
use Rattle.std.specs.Prelude.{◌≡◌, ℕ, List, length}
use Rattle.member.specs.declared.memory.Memory.{Memory}
use Rattle.member.specs.declared.memory.MemoryMut.{MemoryMut}
use Rattle.member.specs.declared.sizes.Lengths.{Lengths}
use Rattle.member.specs.States.{Lent}

-- what a call is lent: an attestor, what the memory holds, and the outgoing buffer
abbrev pub lent : {S : Type 0} → S → Memory → List ℕ → Lent S
lent attestor memory out = record {
  attestor = attestor;
  tallies = record {
    votes = memory.votes.now;
    timeouts = memory.timeouts.now;
    finished = memory.finished.now;
    shares = memory.shares.now;
  };
  table = memory.table.now;
  shelf = memory.shelf.now;
  out = out;
}

-- how long each part is, beside an outgoing buffer of this length
abbrev pub lengths_in : Memory → ℕ → Lengths
lengths_in memory out = record {
  votes = length memory.votes.now;
  timeouts = length memory.timeouts.now;
  finished = length memory.finished.now;
  shares = length memory.shares.now;
  table = length memory.table.now;
  shelf = length memory.shelf.now;
  out = out;
}

abbrev pub lengths_in_mut : MemoryMut → ℕ → Lengths
lengths_in_mut memory out = record {
  votes = length memory.votes.now;
  timeouts = length memory.timeouts.now;
  finished = length memory.finished.now;
  shares = length memory.shares.now;
  table = length memory.table.now;
  shelf = length memory.shelf.now;
  out = out;
}

-- the same memory, whatever it holds now
pub record SameParts (old new : MemoryMut) : Type 0 where
  pub votes : new.votes.ghost_name ≡ old.votes.ghost_name
  pub timeouts : new.timeouts.ghost_name ≡ old.timeouts.ghost_name
  pub finished : new.finished.ghost_name ≡ old.finished.ghost_name
  pub shares : new.shares.ghost_name ≡ old.shares.ghost_name
  pub table : new.table.ghost_name ≡ old.table.ghost_name
  pub shelf : new.shelf.ghost_name ≡ old.shelf.ghost_name
