use Rattle.std.proofs.Common.{ℕ, List, length, ap}
use Rattle.attest.specs.declared.entry.Entry.{Entry}
use Rattle.attest.specs.Limits.{words_most}
use Rattle.attest.proofs.Filled.{filled}
use Rattle.attest.proofs.entry.Entry.of.Goals as goal

entry : ℕ → ℕ → List ℕ → Entry
entry signer len words = record { signer = signer; len = len; words = words }

pub returns : goal.returns
unfolding entry
returns c = ap (entry c.args.signer (length c.args.words.now)) (filled 0 words_most c.args.words.now c.copy_from_slice.new.self c.copy_from_slice.ensures.after)
