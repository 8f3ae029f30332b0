-- What is written reads back, and what is read writes back. A head begins as a statement does: its 43 bytes are those of a
-- statement with the parent's id, so one lemma each way serves both.
use Rattle.std.proofs.Common.{◌≡◌, ℕ, zero, suc, ◌+◌, ◌^◌, ◌<◌, ◌≤◌, true, ◌&&◌, eqb, ltb, leb, List, [], ◌∷◌, ◌++◌, length, get_or, take, drop, replicate, Some, Option, sym, refl, ap, ◌∙◌, subst, inl, inr, arith}
use Rattle.std.specs.List.{between}
use Rattle.std.specs.Str.{bytes_eq}
use Rattle.std.proofs.ByRecursion.{All-get_or, All-take}
use Rattle.std.proofs.lemmas.Slice.Eq.{bytes_eq-Decides}
use Rattle.std.proofs.lemmas.List.{append-nil, length-append, length-take, length-drop, take_all, take_at, take-append-drop, drop_more, drop_all, get_or-append_right}
use Rattle.std.proofs.lemmas.Bool.{and_parts, and_from, cases_eq, cond-true, cond-false, eq-eqb, eqb-true, leb-true, le-leb, lt-ltb, ltb-true, ne_eqb}
use Rattle.std.proofs.lemmas.Bool.Decides.{nat_tests}
use Rattle.std.proofs.lemmas.Option.{cond_some}
use Rattle.digest.specs.Bytes.{bytes16, bytes32, number16, number32}
use Rattle.digest.proofs.Bytes.{number16_bytes16, bytes16_number, number32_bytes32, bytes32_number}
use Rattle.blocks.specs.declared.rank.Kind.{Kind}
use Rattle.blocks.specs.declared.rank.Kind.TheVariants.{Regular, Fallback}
use Rattle.blocks.specs.declared.statement.Statement.{Statement}
use Rattle.blocks.specs.declared.head.Head.{Head}
use Rattle.blocks.specs.Ranks.{kind_number, kind_of, view, round}
use Rattle.blocks.specs.Statements.{height_fits, genesis, statement_bytes, statement_of, statement_formed, read_statement, FieldsFit, StatementFits}
use Rattle.blocks.specs.Heads.{head_bytes, head_of, head_formed, read_head, said, HeadFits}
use Rattle.blocks.specs.RoundTrips.{AreBytes, RoundTrip, StatementsRoundTrip, HeadsRoundTrip}

-- Lengths

pub length_statement : (s : Statement) → length s.id ≡ 32 → length (statement_bytes s) ≡ 43
length_statement s e = omega arith

pub length_head : (h : Head) → length h.parent ≡ 32 → length (head_bytes h) ≡ 45
length_head h e = simp length-append (omega arith)

pub statement_length_lem : (n : ℕ) (s : Statement) → StatementFits n s → length (statement_bytes s) ≡ 43
statement_length_lem n s (inl e) = ap (λ t. length (statement_bytes t)) e
statement_length_lem n s (inr f) = length_statement s f.ids

pub head_length_lem : (n : ℕ) (h : Head) → HeadFits n h → length (head_bytes h) ≡ 45
head_length_lem n h f = length_head h f.fields.ids

-- The fields of what is written

kind_back : (k : Kind) → kind_of (kind_number k) ≡ k
kind_back Regular = refl
kind_back Fallback = refl

same_fields : {k k' : Kind} {v v' r r' : ℕ} {i i' : List ℕ} (h p : ℕ) → k ≡ k' → v ≡ v' → r ≡ r' → i ≡ i'
    → ◌≡◌ {A = Statement} (record { kind = k; height = h; proposer = p; view = view v; round = round r; id = i }) (record { kind = k'; height = h; proposer = p; view = view v'; round = round r'; id = i' })
same_fields h p ek ev er ei = cc

-- bytes that begin with a statement's have its fields
pub statement_front : (n : ℕ) (s : Statement) (rest : List ℕ) → FieldsFit n s → statement_of (statement_bytes s ++ rest) ≡ s
statement_front n s rest f =
    same_fields s.height s.proposer (kind_back s.kind)
    (number32_bytes32 s.view.0 (bytes32 s.round.0 ++ (s.id ++ rest)) f.views)
    (number32_bytes32 s.round.0 (s.id ++ rest) f.rounds)
    (take_at s.id rest 32 f.ids)

-- The bytes of what is read

-- n of the bytes, one by one, from place i on
abbrev reads : ℕ → ℕ → List ℕ → List ℕ
reads i zero bs = []
reads i (suc n) bs = get_or bs i 0 ∷ reads (i + 1) n bs

reads_rest : (n i : ℕ) (bs : List ℕ) → i + n ≤ length bs → drop i bs ≡ reads i n bs ++ drop (i + n) bs
reads_rest zero i bs h = ap (λ k. drop k bs) (omega arith)
reads_rest (suc n) i bs h =
    drop_more bs i 0 (omega arith)
    ∙ ap (λ q. get_or bs i 0 ∷ q) (reads_rest n (i + 1) bs (omega arith) ∙ ap (λ k. reads (i + 1) n bs ++ drop k bs) (omega arith))

kind_again : (b h : ℕ) → height_fits b h ≡ true → kind_number (kind_of b) ≡ b
kind_again b h fits = elim (cases_eq b 0) [
  | inl e ↦ ap (λ x. kind_number (kind_of x)) e ∙ sym e
  | inr other ↦ let e : b ≡ 1 = grind (arith, nat_tests) in ap (λ x. kind_number (kind_of x)) e ∙ sym e
]

same_front : {k k' : ℕ} {v v' r r' : List ℕ} (h p : ℕ) (i : List ℕ) → k ≡ k' → v ≡ v' → r ≡ r'
    → k ∷ h ∷ p ∷ (v ++ (r ++ i)) ≡ k' ∷ h ∷ p ∷ (v' ++ (r' ++ i))
same_front h p i ek ev er = cc

-- bytes that begin as a member's statement or head does
record Front (n : ℕ) (bs : List ℕ) : Type 0 where
  bytes : AreBytes bs
  long : 43 ≤ length bs
  lowest : 1 ≤ get_or bs 2 0
  highest : get_or bs 2 0 ≤ n
  heights : height_fits (get_or bs 0 0) (get_or bs 1 0) ≡ true

module _ (n : ℕ) (bs : List ℕ) (f : Front n bs) where
  byte : (i : ℕ) → i < 43 → get_or bs i 0 < 256
  byte i h = All-get_or (λ b. b < 256) bs i 0 (omega (arith, f.long)) f.bytes

  number_again : (i : ℕ) → i + 3 < 43 → bytes32 (number32 bs i) ≡ get_or bs i 0 ∷ get_or bs (i + 1) 0 ∷ get_or bs (i + 2) 0 ∷ get_or bs (i + 3) 0 ∷ []
  number_again i h =
      bytes32_number (get_or bs i 0) (get_or bs (i + 1) 0) (get_or bs (i + 2) 0) (get_or bs (i + 3) 0)
      (byte i (omega arith)) (byte (i + 1) (omega arith)) (byte (i + 2) (omega arith)) (byte (i + 3) h)

  number_fits : (i : ℕ) → i + 3 < 43 → number32 bs i < 2 ^ 32
  number_fits i h = omega (arith, byte i (omega arith), byte (i + 1) (omega arith), byte (i + 2) (omega arith), byte (i + 3) h)

  -- the fields write back as the first 43 bytes
  front_again : statement_bytes (statement_of bs) ≡ take 43 bs
  front_again =
      same_front (get_or bs 1 0) (get_or bs 2 0) (between 11 43 bs) (kind_again (get_or bs 0 0) (get_or bs 1 0) f.heights)
      (number_again 3 (omega arith)) (number_again 7 (omega arith))
      ∙ sym (ap (take 43) (reads_rest 11 0 bs (omega (arith, f.long))))

  front_fits : FieldsFit n (statement_of bs)
  front_fits = record {
    lowest = f.lowest;
    highest = f.highest;
    heights = ap (λ k. height_fits k (get_or bs 1 0)) (kind_again (get_or bs 0 0) (get_or bs 1 0) f.heights) ∙ f.heights;
    views = number_fits 3 (omega arith);
    rounds = number_fits 7 (omega arith);
    ids = simp (length-take, length-drop) (omega (arith, f.long));
  }

-- Statements

statement_back : (n : ℕ) (s : Statement) → StatementFits n s → read_statement n (statement_bytes s) ≡ Some s
statement_back n s (inl e) = ap (λ t. read_statement n (statement_bytes t)) e ∙ ap Some (sym e)
statement_back n s (inr f) =
    let long = eq-eqb (length (statement_bytes s)) 43 (length_statement s f.ids) in
    let member = and_from (leb s.proposer n) (height_fits (kind_number s.kind) s.height) (le-leb s.proposer n f.highest) f.heights in
    let formed = cond-false (eqb s.proposer 0) (bytes_eq (statement_bytes s) (replicate 43 0)) _ (ne_eqb s.proposer 0 (λ e. omega (arith, f.lowest))) ∙ member in
    cond-true _ _ _ (and_from _ _ long formed)
    ∙ ap Some (ap statement_of (sym (append-nil (statement_bytes s))) ∙ statement_front n s [] f)

statement_read : (n : ℕ) (bs : List ℕ) (s : Statement) → AreBytes bs → read_statement n bs ≡ Some s → (statement_bytes s ≡ bs) × StatementFits n s
statement_read n bs s bytes e =
    let was = cond_some _ (statement_of bs) s e in
    let passed = and_parts (eqb (length bs) 43) (statement_formed n bs) was.0 in
    let long : length bs ≡ 43 = eqb-true (length bs) 43 passed.0 in
    let genesis_formed = bytes_eq bs (replicate 43 0) in
    let member_formed = leb (get_or bs 2 0) n && height_fits (get_or bs 0 0) (get_or bs 1 0) in
    elim (cases_eq (get_or bs 2 0) 0) [
      | inl none ↦
          let zeros = (bytes_eq-Decides bs (replicate 43 0)).0 (sym (cond-true _ genesis_formed member_formed (eq-eqb (get_or bs 2 0) 0 none)) ∙ passed.1) in
          let is : s ≡ genesis = sym was.1 ∙ ap statement_of zeros in
          (ap statement_bytes is ∙ sym zeros, inl is)
      | inr some ↦
          let formed = and_parts _ _ (sym (cond-false _ genesis_formed member_formed (ne_eqb (get_or bs 2 0) 0 some)) ∙ passed.1) in
          let f : Front n bs = record { bytes = bytes; long = omega arith; lowest = omega arith; highest = leb-true _ _ formed.0; heights = formed.1 } in
          (ap statement_bytes (sym was.1) ∙ (front_again n bs f ∙ take_all 43 bs (omega arith)), subst (StatementFits n) was.1 (inr (front_fits n bs f)))
    ]

pub statements_round_trip : StatementsRoundTrip
statements_round_trip n = record {
  back = statement_back n;
  again = λ bs s bytes e. (statement_read n bs s bytes e).0;
  fits = λ bs s bytes e. (statement_read n bs s bytes e).1;
}

-- Heads

-- the head with the fields of a statement, whose id is the parent's, and with this payload
abbrev pub heading : Statement → ℕ → Head
heading s payload = record { kind = s.kind; height = s.height; proposer = s.proposer; view = s.view; round = s.round; parent = s.id; payload = payload }

number_past : (p q : List ℕ) → length p ≡ 32 → number16 (p ++ q) 32 ≡ number16 q 0
number_past p q e =
    let high = get_or-append_right p q 32 32 0 e (omega arith) in
    let low = get_or-append_right p q 32 33 0 e (omega arith) in
    rw (high, low)

payload_back : (h : Head) → length h.parent ≡ 32 → h.payload < 2 ^ 16 → number16 (head_bytes h) 43 ≡ h.payload
payload_back h e small = number_past h.parent (bytes16 h.payload) e ∙ number16_bytes16 h.payload [] small

head_back : (n : ℕ) (h : Head) → HeadFits n h → read_head n (head_bytes h) ≡ Some h
head_back n h f =
    let payload = payload_back h f.fields.ids (omega arith) in
    let long = eq-eqb (length (head_bytes h)) 45 (length_head h f.fields.ids) in
    let short = ap (λ p. leb p 192) payload ∙ le-leb h.payload 192 f.payloads in
    let member = and_from _ _ (le-leb h.proposer n f.fields.highest) (and_from _ _ f.fields.heights short) in
    cond-true _ _ _ (and_from _ _ long (and_from _ _ (lt-ltb 0 h.proposer (omega arith)) member))
    ∙ ap Some
    (ap (λ t. heading t (number16 (head_bytes h) 43)) (statement_front n (said h h.parent) (bytes16 h.payload) f.fields)
    ∙ ap (heading (said h h.parent)) payload)

head_read : (n : ℕ) (bs : List ℕ) (h : Head) → AreBytes bs → read_head n bs ≡ Some h → (head_bytes h ≡ bs) × HeadFits n h
head_read n bs h bytes e =
    let was = cond_some _ (head_of bs) h e in
    let passed = and_parts (eqb (length bs) 45) (head_formed n bs) was.0 in
    let long : length bs ≡ 45 = eqb-true (length bs) 45 passed.0 in
    let some = and_parts (ltb 0 (get_or bs 2 0)) _ passed.1 in
    let most = and_parts (leb (get_or bs 2 0) n) _ some.1 in
    let formed = and_parts (height_fits (get_or bs 0 0) (get_or bs 1 0)) _ most.1 in
    let f : Front n bs = record {
      bytes = bytes;
      long = omega arith;
      lowest = ltb-true 0 (get_or bs 2 0) some.0;
      highest = leb-true (get_or bs 2 0) n most.0;
      heights = formed.0;
    } in
    let payload = bytes16_number (get_or bs 43 0) (get_or bs 44 0) (All-get_or (λ b. b < 256) bs 43 0 (omega arith) bytes) (All-get_or (λ b. b < 256) bs 44 0 (omega arith) bytes) in
    let tail : drop 43 bs ≡ get_or bs 43 0 ∷ get_or bs 44 0 ∷ [] =
    reads_rest 2 43 bs (omega arith) ∙ ap (λ q. get_or bs 43 0 ∷ get_or bs 44 0 ∷ q) (drop_all 45 bs (omega arith)) in
    let fields = ap (λ q. q ++ bytes16 (number16 bs 43)) (front_again n bs f) ∙ ap (λ q. take 43 bs ++ q) (payload ∙ sym tail) ∙ take-append-drop 43 bs in
    (ap head_bytes (sym was.1) ∙ fields, subst (HeadFits n) was.1 (record { fields = front_fits n bs f; payloads = leb-true (number16 bs 43) 192 formed.1 }))

pub heads_round_trip : HeadsRoundTrip
heads_round_trip n = record {
  back = head_back n;
  again = λ bs h bytes e. (head_read n bs h bytes e).0;
  fits = λ bs h bytes e. (head_read n bs h bytes e).1;
}

-- What stands at the front of more bytes

-- what is written and followed by other bytes reads back from its own
pub front_reads : {A : Type 0} {Fits : A → Type 0} {written : A → List ℕ} {read : List ℕ → Option A} → RoundTrip Fits written read
    → (width : ℕ) (a : A) (rest : List ℕ) → Fits a → length (written a) ≡ width → read (take width (written a ++ rest)) ≡ Some a
front_reads {A} {Fits} {written} {read} trip width a rest f e = ap read (take_at (written a) rest width e) ∙ trip.back a f

-- what is read from the front of bytes writes back as that front
pub front_writes : {A : Type 0} {Fits : A → Type 0} {written : A → List ℕ} {read : List ℕ → Option A} → RoundTrip Fits written read
    → (width : ℕ) (bs : List ℕ) (a : A) → AreBytes bs → read (take width bs) ≡ Some a → written a ++ drop width bs ≡ bs
front_writes trip width bs a bytes e =
    ap (λ q. q ++ drop width bs) (trip.again (take width bs) a (All-take (λ b. b < 256) width bs bytes) e) ∙ take-append-drop width bs
