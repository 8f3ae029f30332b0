-- Messages that are read write back as the same bytes, and messages that are written read back.
use Rattle.std.proofs.Common.{◌≡◌, ℕ, ◌+◌, ◌*◌, ◌^◌, ◌<◌, ◌≤◌, true, cond, ◌&&◌, eqb, ltb, leb, List, [], ◌∷◌, ◌++◌, length, get_or, take, drop, Some, None, Option, sym, refl, ap, ◌∙◌, subst, ap₂, inl, inr, arith}
use Rattle.std.specs.Option.{option_map}
use Rattle.std.proofs.ByRecursion.{All-get_or, All-take, All-drop}
use Rattle.std.proofs.lemmas.List.{append_assoc, length-append, length-drop, length-take-le, take_all, take_at, take-append-drop, drop_at, drop-drop, drop_more, take-take}
use Rattle.std.proofs.lemmas.Bool.{and_parts, and_from, cases_eq, cond-true, cond-false, leb-true, le-leb, lt-ltb, ltb-true, eqb-true, eq-eqb, ne_eqb}
use Rattle.std.proofs.lemmas.Option.{none-some, cond_some}
use Rattle.coin.specs.Shares.{Member, size, is_member}
use Rattle.digest.specs.Bytes.{bytes16, bytes32, number16, number32}
use Rattle.digest.proofs.Bytes.{bytes16_number, bytes32_number, number16_bytes16, number32_bytes32}
use Rattle.blocks.specs.declared.head.Head.{Head}
use Rattle.blocks.specs.declared.statement.Statement.{Statement}
use Rattle.blocks.specs.Heads.{head_bytes, read_head}
use Rattle.blocks.specs.Ranks.{view}
use Rattle.blocks.specs.RoundTrips.{AreBytes}
use Rattle.blocks.specs.Statements.{statement_bytes}
use Rattle.blocks.proofs.RoundTrips.{heads_round_trip, head_length_lem, front_reads, front_writes}
use Rattle.wire.specs.declared.form.Form.{Form}
use Rattle.wire.specs.Certificates.{CertificatePart, read_certificate}
use Rattle.wire.specs.Entries.{entries_of, entries_formed}
use Rattle.wire.specs.Layouts.{gathered_bytes, message_number, body_bytes, message_bytes}
use Rattle.wire.specs.Messages.{BlockPart, VoteText, TimeoutText, GatheredText, ShareText, Text, proposal, vote, timeout, timeout_certificate, certificate, share, coin_certificate, block_headed, read_block, proposal_of, read_proposal, vote_saying, read_vote, timeout_with, read_timeout, gathered_formed, gathered, read_timeout_certificate, read_sole, read_share, read_coin_certificate, by_kind, read_message}
use Rattle.wire.specs.Quorums.{quorum}
use Rattle.wire.specs.RoundTrips.{Gathers, payload_of, BlockFits, ProposalFits, VoteFits, TimeoutFits, GatheredFits, ShareFits, TextFits, MessagesRoundTrip, StandsAt, PartsInPlace, AllPartsInPlace, EntriesHold, AllEntriesHold}
use Rattle.wire.proofs.CertificateTrips.{statement_again, statement_fits, statement_behind, statement_front, certificate_certifies, certificate_holds, certificate_bytes_lem, certificate_fits, certificate_back}
use Rattle.wire.proofs.EntryTrips.{entries_read, read_fits, entries_written}
use Rattle.wire.proofs.Passing.{passed, from_mapped}

-- Fields

member_fits : (n m : ℕ) → is_member n m ≡ true → Member n m
member_fits n m e = let p = and_parts (ltb 0 m) (leb m n) e in let some = ltb-true 0 m p.0 in (omega arith, leb-true m n p.1)

member_is : (n m : ℕ) → Member n m → is_member n m ≡ true
member_is n m f = and_from (ltb 0 m) (leb m n) (lt-ltb 0 m (omega (arith, f.0))) (le-leb m n f.1)

module _ (bs : List ℕ) (bytes : AreBytes bs) where
  byte : (i : ℕ) → i < length bs → get_or bs i 0 < 256
  byte i h = All-get_or (λ b. b < 256) bs i 0 h bytes

  -- a view, one byte and others
  view_again : 4 < length bs → bytes32 (number32 bs 0) ++ (get_or bs 4 0 ∷ drop 5 bs) ≡ bs
  view_again h =
      ap (λ q. q ++ (get_or bs 4 0 ∷ drop 5 bs)) (bytes32_number (get_or bs 0 0) (get_or bs 1 0) (get_or bs 2 0) (get_or bs 3 0) (byte 0 (omega arith)) (byte 1 (omega arith)) (byte 2 (omega arith)) (byte 3 (omega arith)))
      ∙ sym (drop_more bs 0 0 (omega arith) ∙ ap (λ q. get_or bs 0 0 ∷ q) (drop_more bs 1 0 (omega arith) ∙ ap (λ q. get_or bs 1 0 ∷ q) (drop_more bs 2 0 (omega arith)
      ∙ ap (λ q. get_or bs 2 0 ∷ q) (drop_more bs 3 0 (omega arith) ∙ ap (λ q. get_or bs 3 0 ∷ q) (drop_more bs 4 0 h)))))

  view_fits : 4 < length bs → number32 bs 0 < 2 ^ 32
  view_fits h = omega (arith, byte 0 (omega arith), byte 1 (omega arith), byte 2 (omega arith), byte 3 (omega arith))

  -- a value and others
  value_again : (i : ℕ) → i + 1 < length bs → bytes16 (number16 bs i) ++ drop (i + 1 + 1) bs ≡ drop i bs
  value_again i h =
      ap (λ q. q ++ drop (i + 1 + 1) bs) (bytes16_number (get_or bs i 0) (get_or bs (i + 1) 0) (byte i (omega arith)) (byte (i + 1) h))
      ∙ sym (drop_more bs i 0 (omega arith) ∙ ap (λ q. get_or bs i 0 ∷ q) (drop_more bs (i + 1) 0 h))

  value_fits : (i : ℕ) → i + 1 < length bs → number16 bs i < 2 ^ 16
  value_fits i h = omega (arith, byte i (omega arith), byte (i + 1) h)

-- the last part of a message
stands_last : (front bytes : List ℕ) (at : ℕ) → at ≡ length front → StandsAt (front ++ bytes) at bytes
stands_last front bytes at e = ap (take (length bytes)) (drop_at front bytes at (sym e)) ∙ take_all (length bytes) bytes (omega arith)

-- What was gathered, timeouts or shares

module _ (n : ℕ) (limit : Option ℕ) (wide count : ℕ) where
  record GatheredCame (bs : List ℕ) : Type 0 where
    holds : Gathers n limit wide count (gathered bs)
    again : AreBytes bs → gathered_bytes (view (number32 bs 0)) count (drop 5 bs) ≡ bs
    fits : AreBytes bs → GatheredFits n limit wide count (gathered bs)

  gathered_read : (bs : List ℕ) → gathered_formed n limit wide count bs ≡ true → GatheredCame bs
  gathered_read bs e =
      let some = and_parts (leb 5 (length bs)) _ e in
      let counted = and_parts (eqb (get_or bs 4 0) count) _ some.1 in
      let sized = and_parts (eqb (length bs) (5 + count * (1 + wide))) _ counted.1 in
      let long = eqb-true (length bs) (5 + count * (1 + wide)) sized.0 in
      let next = eqb-true (get_or bs 4 0) count counted.0 in
      let entries = entries_read n limit wide count 0 (drop 5 bs) (length-drop 5 bs ∙ omega arith) sized.1 in
      let fit = read_fits n limit wide count (drop 5 bs) entries in
      record {
        holds = fit;
        again = λ bytes. ap (λ k. bytes32 (number32 bs 0) ++ (k ∷ drop 5 bs)) (sym next) ∙ view_again bs bytes (omega arith);
        fits = λ bytes. record { views = view_fits bs bytes (omega arith); holds = fit; layout = entries.layout };
      }

  gathered_formed_lem : (g : GatheredText) → GatheredFits n limit wide count g → gathered_formed n limit wide count (gathered_bytes g.view count g.entries) ≡ true
  gathered_formed_lem g f =
      let w = entries_written n limit wide count (entries_of wide count g.entries) f.holds in
      let long = ap length (sym f.layout) ∙ w.long in
      let formed = subst (λ q. entries_formed n limit wide count 0 q ≡ true) f.layout w.formed in
      and_from _ _ (le-leb 5 (length (gathered_bytes g.view count g.entries)) (omega arith)) (and_from _ _ (eq-eqb count count refl) (and_from _ _ (eq-eqb (length (gathered_bytes g.view count g.entries)) (5 + count * (1 + wide)) (omega (arith, long))) formed))

  gathered_back : (g : GatheredText) → GatheredFits n limit wide count g → gathered (gathered_bytes g.view count g.entries) ≡ g
  gathered_back g f = ap (λ v. record { view = view v; entries = g.entries }) (number32_bytes32 g.view.0 (count ∷ g.entries) f.views)

module _ (form : Form) where
  -- What is read

  -- what is known of a text that was read
  record Came (m : List ℕ) (t : Text) : Type 0 where
    holds : EntriesHold form t
    again : AreBytes m → message_bytes form t ≡ m
    fits : AreBytes m → TextFits form t

  headed : (at : ℕ) (bs : List ℕ) (o : Option Head) (b : BlockPart) → block_headed at bs o ≡ Some b
      → (h : Head) × (o ≡ Some h) × (45 + h.payload ≤ length bs) × (record { head = h; bytes = take (45 + h.payload) bs; at = at } ≡ b)
  headed at bs None b e = absurd (none-some b e)
  headed at bs (Some h) b e = let p = cond_some (leb (45 + h.payload) (length bs)) _ b e in (h, refl, leb-true (45 + h.payload) (length bs) p.0, p.1)

  record BlockCame (at : ℕ) (bs : List ℕ) (b : BlockPart) : Type 0 where
    again : b.bytes ++ drop (length b.bytes) bs ≡ bs
    fits : AreBytes bs → BlockFits form at b

  block_read : (at : ℕ) (bs : List ℕ) (b : BlockPart) → read_block form at bs ≡ Some b → BlockCame at bs b
  block_read at bs b e =
      let r = headed at bs (read_head form.members (take 45 bs)) b (passed (leb 45 (length bs)) _ b e).1 in
      let h = r.0 in
      let end = 45 + h.payload in
      let long = length-take-le end bs r.2 in
      let cut = take-take 45 end bs (omega arith) in
      subst (BlockCame at bs) r.3 (record {
        again = ap (λ k. take end bs ++ drop k bs) long ∙ take-append-drop end bs;
        fits = λ bytes. record {
          heads = (heads_round_trip form.members).fits (take 45 bs) h (All-take (λ b. b < 256) 45 bs bytes) r.1;
          layout = front_writes (heads_round_trip form.members) 45 (take end bs) h (All-take (λ b. b < 256) end bs bytes) (ap (read_head form.members) cut ∙ r.1);
          payloads = length-drop 45 (take end bs) ∙ omega (arith, long);
          place = refl;
        };
      })

  proposal_of_lem : (bs : List ℕ) (t : Text) (o : Option BlockPart) → proposal_of form bs o ≡ Some t
      → (b : BlockPart) × (c : CertificatePart) × (o ≡ Some b) × (read_certificate form (1 + length b.bytes) (drop (length b.bytes) bs) ≡ Some c) × (proposal b c ≡ t)
  proposal_of_lem bs t None e = absurd (none-some t e)
  proposal_of_lem bs t (Some b) e = let p = from_mapped (proposal b) _ t e in (b, p.0, refl, p.1, p.2)

  proposal_read : (bs : List ℕ) (t : Text) → read_proposal form bs ≡ Some t → Came (1 ∷ bs) t
  proposal_read bs t e =
      let r = proposal_of_lem bs t (read_block form 1 bs) e in
      let b = r.0 in
      let c = r.1 in
      let block = block_read 1 bs b r.2 in
      subst (Came (1 ∷ bs)) r.4 (record {
        holds = certificate_holds form (1 + length b.bytes) (drop (length b.bytes) bs) c r.3;
        again = λ _. ap (λ q. 1 ∷ q) (ap (λ q. b.bytes ++ q) (certificate_bytes_lem form (1 + length b.bytes) (drop (length b.bytes) bs) c r.3) ∙ block.again);
        fits = λ bytes. record {
          blocks = block.fits bytes.1;
          certificates = certificate_fits form (1 + length b.bytes) (drop (length b.bytes) bs) c (All-drop (λ b. b < 256) (length b.bytes) bs bytes.1) r.3;
        };
      })

  vote_said : (bs : List ℕ) (t : Text) (o : Option Statement) → vote_saying form bs o ≡ Some t
      → (s : Statement) × (o ≡ Some s) × Member form.members (get_or bs 43 0) × (vote (record { statement = s; signer = get_or bs 43 0; tag = drop 44 bs }) ≡ t)
  vote_said bs t None e = absurd (none-some t e)
  vote_said bs t (Some s) e = let p = cond_some (is_member form.members (get_or bs 43 0)) _ t e in (s, refl, member_fits _ _ p.0, p.1)

  vote_read : (bs : List ℕ) (t : Text) → read_vote form bs ≡ Some t → Came (2 ∷ bs) t
  vote_read bs t e =
      let given = passed (eqb (length bs) (44 + form.width)) _ t e in
      let long = eqb-true (length bs) (44 + form.width) given.0 in
      let r = vote_said bs t _ given.1 in
      subst (Came (2 ∷ bs)) r.3 (record {
        holds = tt;
        again = λ bytes. ap (λ q. 2 ∷ q) (statement_again form.members r.0 bs bytes.1 (omega arith) r.1);
        fits = λ bytes. record {
          statements = statement_fits form.members r.0 bs bytes.1 r.1;
          signers = r.2;
          tags = length-drop 44 bs ∙ omega arith;
        };
      })

  timeout_read : (bs : List ℕ) (t : Text) → read_timeout form bs ≡ Some t → Came (3 ∷ bs) t
  timeout_read bs t e =
      let given = passed (leb (5 + form.width) (length bs) && is_member form.members (get_or bs 4 0)) _ t e in
      let tests = and_parts (leb (5 + form.width) (length bs)) _ given.0 in
      let long = leb-true (5 + form.width) (length bs) tests.0 in
      let past = length-drop 5 bs in
      let others = drop (5 + form.width) bs in
      let r = from_mapped (timeout_with form bs) (read_certificate form (6 + form.width) others) t given.1 in
      let rest : take form.width (drop 5 bs) ++ r.0.bytes ≡ drop 5 bs =
      ap (λ q. take form.width (drop 5 bs) ++ q) (certificate_bytes_lem form (6 + form.width) others r.0 r.1 ∙ sym (drop-drop form.width 5 bs)) ∙ take-append-drop form.width (drop 5 bs) in
      subst (Came (3 ∷ bs)) r.2 (record {
        holds = certificate_holds form (6 + form.width) others r.0 r.1;
        again = λ bytes. ap (λ q. 3 ∷ (bytes32 (number32 bs 0) ++ (get_or bs 4 0 ∷ q))) rest ∙ ap (λ q. 3 ∷ q) (view_again bs bytes.1 (omega arith));
        fits = λ bytes. record {
          views = view_fits bs bytes.1 (omega arith);
          signers = member_fits form.members (get_or bs 4 0) tests.1;
          tags = length-take-le form.width (drop 5 bs) (omega arith);
          certificates = certificate_fits form (6 + form.width) others r.0 (All-drop (λ b. b < 256) (5 + form.width) bs bytes.1) r.1;
        };
      })

  timeout_certificate_read : (bs : List ℕ) (t : Text) → read_timeout_certificate form bs ≡ Some t → Came (4 ∷ bs) t
  timeout_certificate_read bs t e =
      let r = cond_some (gathered_formed form.members None form.width (quorum form.members) bs) _ t e in
      let g = gathered_read form.members None form.width (quorum form.members) bs r.0 in
      subst (Came (4 ∷ bs)) r.1 (record {
        holds = g.holds;
        again = λ bytes. ap (λ q. 4 ∷ q) (g.again bytes.1);
        fits = λ bytes. g.fits bytes.1;
      })

  sole_read : (bs : List ℕ) (t : Text) → read_sole form bs ≡ Some t → Came (5 ∷ bs) t
  sole_read bs t e =
      let r = from_mapped certificate (read_certificate form 1 bs) t e in
      subst (Came (5 ∷ bs)) r.2 (record {
        holds = certificate_holds form 1 bs r.0 r.1;
        again = λ _. ap (λ q. 5 ∷ q) (certificate_bytes_lem form 1 bs r.0 r.1);
        fits = λ bytes. certificate_fits form 1 bs r.0 bytes.1 r.1;
      })

  share_read : (bs : List ℕ) (t : Text) → read_share form bs ≡ Some t → Came (6 ∷ bs) t
  share_read bs t e =
      let r = cond_some (eqb (length bs) (7 + form.width) && (is_member form.members (get_or bs 4 0) && leb (number16 bs 5) form.greatest)) _ t e in
      let tests = and_parts (eqb (length bs) (7 + form.width)) _ r.0 in
      let known = and_parts (is_member form.members (get_or bs 4 0)) _ tests.1 in
      let long = eqb-true (length bs) (7 + form.width) tests.0 in
      subst (Came (6 ∷ bs)) r.1 (record {
        holds = tt;
        again = λ bytes. ap (λ q. 6 ∷ (bytes32 (number32 bs 0) ++ (get_or bs 4 0 ∷ q))) (value_again bs bytes.1 5 (omega arith)) ∙ ap (λ q. 6 ∷ q) (view_again bs bytes.1 (omega arith));
        fits = λ bytes. record {
          views = view_fits bs bytes.1 (omega arith);
          members = member_fits form.members (get_or bs 4 0) known.0;
          values = leb-true (number16 bs 5) form.greatest known.1;
          rooms = value_fits bs bytes.1 5 (omega arith);
          tags = length-drop 7 bs ∙ omega arith;
        };
      })

  coin_certificate_read : (bs : List ℕ) (t : Text) → read_coin_certificate form bs ≡ Some t → Came (7 ∷ bs) t
  coin_certificate_read bs t e =
      let r = cond_some (gathered_formed form.members (Some form.greatest) (2 + form.width) (size form.members) bs) _ t e in
      let g = gathered_read form.members (Some form.greatest) (2 + form.width) (size form.members) bs r.0 in
      subst (Came (7 ∷ bs)) r.1 (record {
        holds = g.holds;
        again = λ bytes. ap (λ q. 7 ∷ q) (g.again bytes.1);
        fits = λ bytes. g.fits bytes.1;
      })

  -- of this kind, or of one of the others
  or_else : {bs : List ℕ} {t : Text} (k kind : ℕ) (x y : Option Text) → (x ≡ Some t → Came (k ∷ bs) t) → (y ≡ Some t → Came (kind ∷ bs) t) → cond (eqb kind k) x y ≡ Some t → Came (kind ∷ bs) t
  or_else {bs} {t} k kind x y this others e = elim (cases_eq kind k) [
    | inl same ↦ subst (λ j. Came (j ∷ bs) t) (sym same) (this (sym (cond-true _ x y (eq-eqb kind k same)) ∙ e))
    | inr apart ↦ others (sym (cond-false _ x y (ne_eqb kind k apart)) ∙ e)
  ]

  kind_read : (kind : ℕ) (bs : List ℕ) (t : Text) → by_kind form kind bs ≡ Some t → Came (kind ∷ bs) t
  kind_read kind bs t =
      or_else 1 kind _ _ (proposal_read bs t)
      (or_else 2 kind _ _ (vote_read bs t)
      (or_else 3 kind _ _ (timeout_read bs t)
      (or_else 4 kind _ _ (timeout_certificate_read bs t)
      (or_else 5 kind _ _ (sole_read bs t)
      (or_else 6 kind _ _ (share_read bs t)
      (or_else 7 kind _ _ (coin_certificate_read bs t) (λ e. absurd (none-some t e))))))))

  message_read : (m : List ℕ) (t : Text) → read_message form m ≡ Some t → Came m t
  message_read [] t e = absurd (none-some t e)
  message_read (kind ∷ bs) t e = kind_read kind bs t (passed (leb 1 (length (kind ∷ bs))) _ t e).1

  -- What is written

  block_back : (at : ℕ) (b : BlockPart) (others : List ℕ) → BlockFits form at b → read_block form at (b.bytes ++ others) ≡ Some b
  block_back at b others f =
      let n = form.members in
      let bs = b.bytes ++ others in
      let head = head_length_lem n b.head f.heads in
      let long : length b.bytes ≡ 45 + b.head.payload =
      sym (ap length f.layout) ∙ (length-append (head_bytes b.head) (payload_of b) ∙ ap₂ ◌+◌ head f.payloads) in
      let longer = length-append b.bytes others in
      let split : head_bytes b.head ++ (payload_of b ++ others) ≡ bs =
      sym (append_assoc (head_bytes b.head) (payload_of b) others) ∙ ap (λ q. q ++ others) f.layout in
      let reads = ap (λ q. read_head n (take 45 q)) (sym split) ∙ front_reads (heads_round_trip n) 45 b.head (payload_of b ++ others) f.heads head in
      cond-true _ _ _ (le-leb 45 (length bs) (omega arith))
      ∙ (ap (block_headed at bs) reads
      ∙ (cond-true _ _ _ (le-leb (45 + b.head.payload) (length bs) (omega arith))
      ∙ ap₂ (λ q a. Some (record { head = b.head; bytes = q; at = a })) (take_at b.bytes others (45 + b.head.payload) long) (sym f.place)))

  proposal_back : (b : BlockPart) (c : CertificatePart) → ProposalFits form b c → read_proposal form (b.bytes ++ c.bytes) ≡ Some (proposal b c)
  proposal_back b c f =
      ap (proposal_of form (b.bytes ++ c.bytes)) (block_back 1 b c.bytes f.blocks)
      ∙ ap (option_map (proposal b)) (ap (read_certificate form (1 + length b.bytes)) (drop_at b.bytes c.bytes (length b.bytes) refl) ∙ certificate_back form (1 + length b.bytes) c f.certificates)

  vote_back : (v : VoteText) → VoteFits form v → read_vote form (statement_bytes v.statement ++ (v.signer ∷ v.tag)) ≡ Some (vote v)
  vote_back v f =
      let n = form.members in
      let bs = statement_bytes v.statement ++ (v.signer ∷ v.tag) in
      let b = statement_behind n v.statement v.signer v.tag f.statements in
      cond-true _ _ _ (eq-eqb (length bs) (44 + form.width) (b.long ∙ omega (arith, f.tags)))
      ∙ (ap (vote_saying form bs) (statement_front n v.statement (v.signer ∷ v.tag) f.statements)
      ∙ (cond-true _ _ _ (ap (is_member n) b.next ∙ member_is n v.signer f.signers)
      ∙ ap₂ (λ k q. Some (vote (record { statement = v.statement; signer = k; tag = q }))) b.next b.past))

  timeout_back : (t : TimeoutText) → TimeoutFits form t → read_timeout form (body_bytes form (timeout t)) ≡ Some (timeout t)
  timeout_back t f =
      let c = t.certificate in
      let bs = body_bytes form (timeout t) in
      let front = bytes32 t.view.0 ++ (t.signer ∷ t.tag) in
      let tags = f.tags in
      let past = drop_at front c.bytes (5 + form.width) (omega arith) in
      let rest = length-append t.tag c.bytes in
      let reads = ap (read_certificate form (6 + form.width)) past ∙ certificate_back form (6 + form.width) c f.certificates in
      cond-true _ _ _ (and_from _ _ (le-leb (5 + form.width) (length bs) (omega arith)) (member_is form.members t.signer f.signers))
      ∙ (ap (option_map (timeout_with form bs)) reads
      ∙ ap₂ (λ v q. Some (timeout (record { view = view v; signer = t.signer; tag = q; certificate = c })))
      (number32_bytes32 t.view.0 (t.signer ∷ (t.tag ++ c.bytes)) f.views) (take_at t.tag c.bytes form.width f.tags))

  share_back : (s : ShareText) → ShareFits form s → read_share form (body_bytes form (share s)) ≡ Some (share s)
  share_back s f =
      let bs = body_bytes form (share s) in
      let value = number16_bytes16 s.value s.tag f.rooms in
      cond-true _ _ _ (and_from _ _ (eq-eqb (length bs) (7 + form.width) (omega (arith, f.tags))) (and_from _ _ (member_is form.members s.member f.members)
      (ap (λ v. leb v form.greatest) value ∙ le-leb s.value form.greatest f.values)))
      ∙ ap₂ (λ v x. Some (share (record { view = view v; member = s.member; value = x; tag = s.tag })))
      (number32_bytes32 s.view.0 (s.member ∷ (bytes16 s.value ++ s.tag)) f.views) value

  body_back : (t : Text) → TextFits form t → by_kind form (message_number t) (body_bytes form t) ≡ Some t
  body_back (proposal b c) f = proposal_back b c f
  body_back (vote v) f = vote_back v f
  body_back (timeout t) f = timeout_back t f
  body_back (timeout_certificate g) f = cond-true _ _ _ (gathered_formed_lem _ _ _ _ g f) ∙ ap (λ x. Some (timeout_certificate x)) (gathered_back _ _ _ _ g f)
  body_back (certificate c) f = ap (option_map certificate) (certificate_back form 1 c f)
  body_back (share s) f = share_back s f
  body_back (coin_certificate g) f = cond-true _ _ _ (gathered_formed_lem _ _ _ _ g f) ∙ ap (λ x. Some (coin_certificate x)) (gathered_back _ _ _ _ g f)

  message_back : (t : Text) → TextFits form t → read_message form (message_bytes form t) ≡ Some t
  message_back t f = cond-true _ _ _ (le-leb 1 (length (message_bytes form t)) (omega arith)) ∙ body_back t f

  -- Places

  parts_placed : (t : Text) → TextFits form t → PartsInPlace (message_bytes form t) t
  parts_placed (proposal b c) f = (
    subst (λ a. StandsAt (message_bytes form (proposal b c)) a b.bytes) (sym f.blocks.place) (take_at b.bytes c.bytes (length b.bytes) refl),
    stands_last (1 ∷ b.bytes) c.bytes c.at (f.certificates.place ∙ omega arith),
  )
  parts_placed (vote v) f = tt
  parts_placed (timeout t) f =
      let tags = f.tags in
      stands_last (3 ∷ (bytes32 t.view.0 ++ (t.signer ∷ t.tag))) t.certificate.bytes t.certificate.at (f.certificates.place ∙ omega arith)
  parts_placed (timeout_certificate g) f = tt
  parts_placed (certificate c) f = stands_last (5 ∷ []) c.bytes c.at f.place
  parts_placed (share s) f = tt
  parts_placed (coin_certificate g) f = tt

pub messages_round_trip_lem : MessagesRoundTrip
messages_round_trip_lem form = record {
  back = message_back form;
  again = λ bs t bytes e. (message_read form bs t e).again bytes;
  fits = λ bs t bytes e. (message_read form bs t e).fits bytes;
}

pub parts_in_place_lem : AllPartsInPlace
parts_in_place_lem form m t bytes e = let r = message_read form m t e in subst (λ q. PartsInPlace q t) (r.again bytes) (parts_placed form t (r.fits bytes))

pub entries_hold_lem : AllEntriesHold
entries_hold_lem = record { certificates = certificate_certifies; messages = λ form m t e. (message_read form m t e).holds }
