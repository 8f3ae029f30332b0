-- An entry of the book.
use Rattle.std.specs.Prelude.{ℕ, ◌-◌, Bool, ◌&&◌, List, ◌++◌, length, take, replicate, ◌==◌}
use Rattle.std.specs.Str.{bytes_eq}
use Rattle.attest.specs.Limits.{words_most}
use Rattle.attest.specs.declared.entry.Entry.{Entry}

abbrev pub blank : Entry
blank = record { signer = 0; len = 0; words = replicate words_most 0 }

abbrev pub entry_of : ℕ → List ℕ → Entry
entry_of signer words = record { signer = signer; len = length words; words = words ++ replicate (words_most - length words) 0 }

-- the entry is of this signer and these words
abbrev pub entry_holds : Entry → ℕ → List ℕ → Bool
entry_holds e signer words = e.signer == signer && bytes_eq words (take e.len e.words)
