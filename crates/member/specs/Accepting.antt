-- The tags of a message, each put to the attestor.
use Rattle.std.specs.Prelude.{ℕ, ◌+◌, Bool, true, ◌&&◌, List, [], ◌∷◌, drop}
use Rattle.digest.specs.Bytes.{number16}
use Rattle.attest.specs.declared.attestor.Attestor.{Ghosts}
use Rattle.blocks.specs.declared.rank.View.{View}
use Rattle.coin.specs.declared.shares.Share.{Share}
use Rattle.coin.specs.Shares.{size}
use Rattle.wire.specs.declared.form.Form.{Form}
use Rattle.wire.specs.Certificates.{CertificatePart, certificate_entries}
use Rattle.wire.specs.Entries.{Entry, entries_of}
use Rattle.wire.specs.Layouts.{vote_words, timeout_words, share_words}
use Rattle.wire.specs.Messages.{GatheredText}
use Rattle.wire.specs.Quorums.{quorum}

abbrev pub all_entries : (Entry → Bool) → List Entry → Bool
all_entries good [] = true
all_entries good (e ∷ es) = good e && all_entries good es

-- the entry's tag is accepted for its signer and the words
abbrev pub entry_accepted : (ℕ → List ℕ → List ℕ → Bool) → List ℕ → Entry → Bool
entry_accepted accepts words e = accepts e.signer words e.tail

abbrev pub all_accepted : (ℕ → List ℕ → List ℕ → Bool) → List ℕ → List Entry → Bool
all_accepted accepts words es = all_entries (entry_accepted accepts words) es

abbrev pub certificate_accepted : {S : Type 0} → Ghosts S → S → Form → CertificatePart → Bool
certificate_accepted g a form c = all_accepted (g.accepts a) (vote_words c.statement) (certificate_entries form.width c.bytes)

abbrev pub timeouts_accepted : {S : Type 0} → Ghosts S → S → Form → GatheredText → Bool
timeouts_accepted g a form t =
    all_accepted (g.accepts a) (timeout_words t.view) (entries_of form.width (quorum form.members) t.entries)

-- what an entry of a coin certificate says of its member's share
abbrev pub share_of : Entry → Share
share_of e = record { member = e.signer; value = number16 e.tail 0 }

-- the entry's tag is accepted for the dealer, number 0, and the member's share
abbrev pub entry_dealt : (ℕ → List ℕ → List ℕ → Bool) → View → Entry → Bool
entry_dealt accepts v e = accepts 0 (share_words v e.signer (number16 e.tail 0)) (drop 2 e.tail)

abbrev pub all_dealt : (ℕ → List ℕ → List ℕ → Bool) → View → List Entry → Bool
all_dealt accepts v es = all_entries (entry_dealt accepts v) es

abbrev pub coin_entries : Form → GatheredText → List Entry
coin_entries form t = entries_of (2 + form.width) (size form.members) t.entries

abbrev pub shares_accepted : {S : Type 0} → Ghosts S → S → Form → GatheredText → Bool
shares_accepted g a form t = all_dealt (g.accepts a) t.view (coin_entries form t)
