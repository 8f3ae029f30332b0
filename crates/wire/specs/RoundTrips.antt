-- What fits to be written in a message; and that reading and writing undo one another.
use Rattle.std.specs.Prelude.{◌≡◌, ℕ, ◌+◌, ◌^◌, ◌<◌, ◌≤◌, List, [], ◌∷◌, ◌++◌, length, take, drop, replicate, Some, None, Option}
use Rattle.std.specs.List.{flat_map, AllByRecursion}
use Rattle.coin.specs.Shares.{Member, size}
use Rattle.digest.specs.Bytes.{number16}
use Rattle.blocks.specs.declared.statement.Statement.{Statement}
use Rattle.blocks.specs.Heads.{head_bytes, HeadFits}
use Rattle.blocks.specs.Limits.{head_length}
use Rattle.blocks.specs.RoundTrips.{AreBytes, RoundTrip}
use Rattle.blocks.specs.Statements.{genesis, StatementFits}
use Rattle.wire.specs.declared.form.Form.{Form}
use Rattle.wire.specs.Certificates.{CertificatePart, count_for, certificate_entries, read_certificate}
use Rattle.wire.specs.Entries.{Entry, entries_of}
use Rattle.wire.specs.Layouts.{entry_bytes, certificate_bytes, message_bytes}
use Rattle.wire.specs.Messages.{BlockPart, VoteText, TimeoutText, GatheredText, ShareText, Text, proposal, vote, timeout, timeout_certificate, certificate, share, coin_certificate, read_message}
use Rattle.wire.specs.Quorums.{quorum}

-- the value of an entry is at most the limit, where there is one
abbrev pub ValueFits : Option ℕ → ℕ → Type 0
ValueFits None value = Unit {0}
ValueFits (Some limit) value = value ≤ limit

-- an entry of a member, with `wide` bytes after the signer; where there is a limit, they begin with a value of two bytes
pub record EntryFits (n : ℕ) (limit : Option ℕ) (wide : ℕ) (e : Entry) : Type 0 where
  pub signers : Member n e.signer
  pub tails : length e.tail ≡ wide
  pub values : ValueFits limit (number16 e.tail 0)

-- each signer is above the one before it, the first above `last`
abbrev pub Rising : ℕ → List Entry → Type 0
Rising last [] = Unit {0}
Rising last (e ∷ es) = (last < e.signer) × Rising e.signer es

-- just `count` entries that fit, their signers rising
pub record EntriesFit (n : ℕ) (limit : Option ℕ) (wide count : ℕ) (es : List Entry) : Type 0 where
  pub counts : length es ≡ count
  pub each : AllByRecursion (EntryFits n limit wide) es
  pub rising : Rising 0 es

-- a certificate of the statement has these entries: none of genesis, else a quorum's tags
abbrev pub Certifies : Form → Statement → List Entry → Type 0
Certifies form s es = EntriesFit form.members None form.width (count_for form.members s) es

-- the same of a certificate in a message
abbrev pub CertificateHolds : Form → CertificatePart → Type 0
CertificateHolds form c = Certifies form c.statement (certificate_entries form.width c.bytes)

-- what was gathered in a view has `count` entries, each of `wide` bytes after the member
abbrev pub Gathers : ℕ → Option ℕ → ℕ → ℕ → GatheredText → Type 0
Gathers n limit wide count g = EntriesFit n limit wide count (entries_of wide count g.entries)

-- a certificate in a message: the bytes of its statement and of its entries, at the place
pub record CertificateFits (form : Form) (at : ℕ) (c : CertificatePart) : Type 0 where
  pub statements : StatementFits form.members c.statement
  pub holds : CertificateHolds form c
  pub layout : certificate_bytes c.statement (certificate_entries form.width c.bytes) ≡ c.bytes
  pub place : c.at ≡ at

abbrev pub payload_of : BlockPart → List ℕ
payload_of b = drop head_length b.bytes

-- a block in a message: the bytes of its head and a payload as long as the head says, at the place
pub record BlockFits (form : Form) (at : ℕ) (b : BlockPart) : Type 0 where
  pub heads : HeadFits form.members b.head
  pub layout : head_bytes b.head ++ payload_of b ≡ b.bytes
  pub payloads : length (payload_of b) ≡ b.head.payload
  pub place : b.at ≡ at

pub record ProposalFits (form : Form) (b : BlockPart) (c : CertificatePart) : Type 0 where
  pub blocks : BlockFits form 1 b
  pub certificates : CertificateFits form (1 + length b.bytes) c

pub record VoteFits (form : Form) (v : VoteText) : Type 0 where
  pub statements : StatementFits form.members v.statement
  pub signers : Member form.members v.signer
  pub tags : length v.tag ≡ form.width

pub record TimeoutFits (form : Form) (t : TimeoutText) : Type 0 where
  pub views : t.view.0 < 2 ^ 32
  pub signers : Member form.members t.signer
  pub tags : length t.tag ≡ form.width
  pub certificates : CertificateFits form (6 + form.width) t.certificate

pub record GatheredFits (n : ℕ) (limit : Option ℕ) (wide count : ℕ) (g : GatheredText) : Type 0 where
  pub views : g.view.0 < 2 ^ 32
  pub holds : Gathers n limit wide count g
  pub layout : flat_map entry_bytes (entries_of wide count g.entries) ≡ g.entries

pub record ShareFits (form : Form) (s : ShareText) : Type 0 where
  pub views : s.view.0 < 2 ^ 32
  pub members : Member form.members s.member
  pub values : s.value ≤ form.greatest
  pub rooms : s.value < 2 ^ 16
  pub tags : length s.tag ≡ form.width

-- the text fits to be written
abbrev pub TextFits : Form → Text → Type 0
TextFits form (proposal b c) = ProposalFits form b c
TextFits form (vote v) = VoteFits form v
TextFits form (timeout t) = TimeoutFits form t
TextFits form (timeout_certificate g) = GatheredFits form.members None form.width (quorum form.members) g
TextFits form (certificate c) = CertificateFits form 1 c
TextFits form (share s) = ShareFits form s
TextFits form (coin_certificate g) = GatheredFits form.members (Some form.greatest) (2 + form.width) (size form.members) g

-- what fits is written so that it reads back as the same text; what is read fits, and writes back as the same bytes
abbrev pub MessagesRoundTrip : Type 0
MessagesRoundTrip = (form : Form) → RoundTrip (TextFits form) (message_bytes form) (read_message form)

-- the bytes of a certificate put together from a statement and entries are that certificate
pub record CertificateStands (form : Form) (at : ℕ) (s : Statement) (es : List Entry) : Type 0 where
  pub entries : certificate_entries form.width (certificate_bytes s es) ≡ es
  pub reads : read_certificate form at (certificate_bytes s es) ≡ Some (record { statement = s; bytes = certificate_bytes s es; at = at })

abbrev pub CertificatesStand : Type 0
CertificatesStand =
    (form : Form) (at : ℕ) (s : Statement) (es : List Entry) → StatementFits form.members s → Certifies form s es → CertificateStands form at s es

-- genesis' certificate has no entry, and is read in every form
abbrev pub GenesisCertified : Type 0
GenesisCertified =
    (form : Form) → read_message form (5 ∷ replicate 44 0) ≡ Some (certificate (record { statement = genesis; bytes = replicate 44 0; at = 1 }))

-- the bytes stand in the message at the place
abbrev pub StandsAt : List ℕ → ℕ → List ℕ → Type 0
StandsAt m at bytes = take (length bytes) (drop at m) ≡ bytes

-- each part that is told with a place stands there
abbrev pub PartsInPlace : List ℕ → Text → Type 0
PartsInPlace m (proposal b c) = StandsAt m b.at b.bytes × StandsAt m c.at c.bytes
PartsInPlace m (vote v) = Unit {0}
PartsInPlace m (timeout t) = StandsAt m t.certificate.at t.certificate.bytes
PartsInPlace m (timeout_certificate g) = Unit {0}
PartsInPlace m (certificate c) = StandsAt m c.at c.bytes
PartsInPlace m (share s) = Unit {0}
PartsInPlace m (coin_certificate g) = Unit {0}

abbrev pub AllPartsInPlace : Type 0
AllPartsInPlace = (form : Form) (m : List ℕ) (t : Text) → AreBytes m → read_message form m ≡ Some t → PartsInPlace m t

-- the entries of a text are as many as it needs: a quorum's, none of genesis, or for a coin one more than may be dishonest
abbrev pub EntriesHold : Form → Text → Type 0
EntriesHold form (proposal b c) = CertificateHolds form c
EntriesHold form (vote v) = Unit {0}
EntriesHold form (timeout t) = CertificateHolds form t.certificate
EntriesHold form (timeout_certificate g) = Gathers form.members None form.width (quorum form.members) g
EntriesHold form (certificate c) = CertificateHolds form c
EntriesHold form (share s) = Unit {0}
EntriesHold form (coin_certificate g) = Gathers form.members (Some form.greatest) (2 + form.width) (size form.members) g

-- so it is of all that was read
pub record AllEntriesHold : Type 0 where
  pub certificates : (form : Form) (at : ℕ) (bs : List ℕ) (c : CertificatePart) → read_certificate form at bs ≡ Some c → Certifies form c.statement (certificate_entries form.width bs)
  pub messages : (form : Form) (m : List ℕ) (t : Text) → read_message form m ≡ Some t → EntriesHold form t
