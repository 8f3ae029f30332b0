-- Certificates that are read write back as the same bytes, and certificates that are written read back.
use Rattle.std.proofs.Common.{◌≡◌, ℕ, ◌+◌, ◌*◌, ◌<◌, true, eqb, leb, List, [], ◌∷◌, ◌++◌, length, get_or, take, drop, Some, None, Option, sym, refl, ap, ◌∙◌, subst, ap₂, subst₂, inl, arith}
use Rattle.std.specs.Option.{option_map}
use Rattle.std.specs.List.{flat_map}
use Rattle.std.proofs.ByRecursion.{All-take}
use Rattle.std.proofs.lemmas.List.{length-append, length-drop, get_or_at, drop_at, drop-drop, drop_more}
use Rattle.std.proofs.lemmas.Bool.{and_parts, and_from, cond-true, leb-true, le-leb, eqb-true, eq-eqb}
use Rattle.std.proofs.lemmas.Option.{none-some, cond_some}
use Rattle.blocks.specs.declared.statement.Statement.{Statement}
use Rattle.blocks.specs.RoundTrips.{AreBytes}
use Rattle.blocks.specs.Statements.{genesis, statement_bytes, read_statement, StatementFits}
use Rattle.blocks.proofs.RoundTrips.{statements_round_trip, statement_length_lem, front_reads, front_writes}
use Rattle.wire.specs.declared.form.Form.{Form}
use Rattle.wire.specs.Certificates.{CertificatePart, count_for, certificate_entries, certified, certificate_saying, read_certificate}
use Rattle.wire.specs.Entries.{Entry, entries_of, entries_formed}
use Rattle.wire.specs.Layouts.{entry_bytes, certificate_bytes}
use Rattle.wire.specs.Messages.{certificate}
use Rattle.wire.specs.RoundTrips.{EntriesFit, Certifies, CertificateHolds, CertificateFits, CertificateStands, GenesisCertified}
use Rattle.wire.proofs.EntryTrips.{Read, length_entries, entries_read, read_fits, entries_written}
use Rattle.wire.proofs.Passing.{passed}

-- one element and others behind n
pub record Behind (n k : ℕ) (rest bs : List ℕ) : Type 0 where
  pub next : get_or bs n 0 ≡ k
  pub past : drop (n + 1) bs ≡ rest
  pub long : length bs ≡ n + 1 + length rest

behind : (p : List ℕ) (n k : ℕ) (rest : List ℕ) → length p ≡ n → Behind n k rest (p ++ (k ∷ rest))
behind p n k rest e = record {
  next = get_or_at p k rest 0 n e;
  past = sym (drop-drop 1 n (p ++ (k ∷ rest))) ∙ ap (drop 1) (drop_at p (k ∷ rest) n e);
  long = length-append p (k ∷ rest) ∙ omega arith;
}

-- A statement, and one byte and others behind it

module _ (n : ℕ) (s : Statement) where
  pub statement_again : (bs : List ℕ) → AreBytes bs → 43 < length bs → read_statement n (take 43 bs) ≡ Some s → statement_bytes s ++ (get_or bs 43 0 ∷ drop 44 bs) ≡ bs
  statement_again bs bytes long e = ap (λ q. statement_bytes s ++ q) (sym (drop_more bs 43 0 long)) ∙ front_writes (statements_round_trip n) 43 bs s bytes e

  pub statement_fits : (bs : List ℕ) → AreBytes bs → read_statement n (take 43 bs) ≡ Some s → StatementFits n s
  statement_fits bs bytes e = (statements_round_trip n).fits (take 43 bs) s (All-take (λ b. b < 256) 43 bs bytes) e

  pub statement_behind : (k : ℕ) (rest : List ℕ) → StatementFits n s → Behind 43 k rest (statement_bytes s ++ (k ∷ rest))
  statement_behind k rest f = behind (statement_bytes s) 43 k rest (statement_length_lem n s f)

  pub statement_front : (rest : List ℕ) → StatementFits n s → read_statement n (take 43 (statement_bytes s ++ rest)) ≡ Some s
  statement_front rest f = front_reads (statements_round_trip n) 43 s rest f (statement_length_lem n s f)

module _ (form : Form) where
  -- What is read

  record Certified (s : Statement) (bs : List ℕ) : Type 0 where
    count : get_or bs 43 0 ≡ count_for form.members s
    entries : Read form.members None form.width (get_or bs 43 0) 0 (drop 44 bs)

  certified_as : (s : Statement) (bs : List ℕ) → certified form s bs ≡ true → Certified s bs
  certified_as s bs e =
      let counted = and_parts (eqb (get_or bs 43 0) (count_for form.members s)) _ e in
      let sized = and_parts (eqb (length bs) (44 + get_or bs 43 0 * (1 + form.width))) _ counted.1 in
      let long = eqb-true (length bs) (44 + get_or bs 43 0 * (1 + form.width)) sized.0 in
      record {
        count = eqb-true (get_or bs 43 0) (count_for form.members s) counted.0;
        entries = entries_read form.members None form.width (get_or bs 43 0) 0 (drop 44 bs) (length-drop 44 bs ∙ omega arith) sized.1;
      }

  record Came (at : ℕ) (bs : List ℕ) (o : Option Statement) (c : CertificatePart) : Type 0 where
    says : o ≡ Some c.statement
    certified : Certified c.statement bs
    bytes : c.bytes ≡ bs
    place : c.at ≡ at

  came : (at : ℕ) (bs : List ℕ) (o : Option Statement) (c : CertificatePart) → certificate_saying form at bs o ≡ Some c → Came at bs o c
  came at bs None c e = absurd (none-some c e)
  came at bs (Some s) c e =
      let given = cond_some (certified form s bs) (record { statement = s; bytes = bs; at = at }) c e in
      subst (Came at bs (Some s)) given.1 (record { says = refl; certified = certified_as s bs given.0; bytes = refl; place = refl })

  pub certificate_certifies : (at : ℕ) (bs : List ℕ) (c : CertificatePart) → read_certificate form at bs ≡ Some c → Certifies form c.statement (certificate_entries form.width bs)
  certificate_certifies at bs c e =
      let r = came at bs _ c (passed (leb 44 (length bs)) _ c e).1 in
      subst (λ count. EntriesFit form.members None form.width count (certificate_entries form.width bs)) r.certified.count (read_fits form.members None form.width _ _ r.certified.entries)

  pub certificate_bytes_lem : (at : ℕ) (bs : List ℕ) (c : CertificatePart) → read_certificate form at bs ≡ Some c → c.bytes ≡ bs
  certificate_bytes_lem at bs c e = (came at bs _ c (passed (leb 44 (length bs)) _ c e).1).bytes

  pub certificate_holds : (at : ℕ) (bs : List ℕ) (c : CertificatePart) → read_certificate form at bs ≡ Some c → CertificateHolds form c
  certificate_holds at bs c e =
      subst (λ b. Certifies form c.statement (certificate_entries form.width b)) (sym (certificate_bytes_lem at bs c e)) (certificate_certifies at bs c e)

  pub certificate_fits : (at : ℕ) (bs : List ℕ) (c : CertificatePart) → AreBytes bs → read_certificate form at bs ≡ Some c → CertificateFits form at c
  certificate_fits at bs c bytes e =
      let given = passed (leb 44 (length bs)) _ c e in
      let long = leb-true 44 (length bs) given.0 in
      let r = came at bs _ c given.1 in
      let again = ap₂ (λ count others. statement_bytes c.statement ++ (count ∷ others)) (length_entries form.width (get_or bs 43 0) (drop 44 bs)) r.certified.entries.layout
      ∙ statement_again form.members c.statement bs bytes (omega arith) r.says in
      record {
        statements = statement_fits form.members c.statement bs bytes r.says;
        holds = certificate_holds at bs c e;
        layout = subst (λ b. certificate_bytes c.statement (certificate_entries form.width b) ≡ b) (sym r.bytes) again;
        place = r.place;
      }

  -- What is written

  -- the byte behind the statement is the count, and the entries follow it
  certified_by : (s : Statement) (bs : List ℕ) (count : ℕ) (others : List ℕ) → Behind 43 count others bs → count ≡ count_for form.members s
      → length others ≡ count * (1 + form.width) → entries_formed form.members None form.width count 0 others ≡ true → certified form s bs ≡ true
  certified_by s bs count others b counted long formed =
      let sized : length bs ≡ 44 + get_or bs 43 0 * (1 + form.width) = b.long ∙ (omega (arith, long) ∙ ap (λ k. 44 + k * (1 + form.width)) (sym b.next)) in
      and_from _ _ (eq-eqb (get_or bs 43 0) _ (b.next ∙ counted)) (and_from _ _ (eq-eqb (length bs) _ sized)
      (subst₂ (λ k q. entries_formed form.members None form.width k 0 q ≡ true) (sym b.next) (sym b.past) formed))

  pub certificate_stands : (at : ℕ) (s : Statement) (es : List Entry) → StatementFits form.members s → Certifies form s es → CertificateStands form at s es
  certificate_stands at s es f holds =
      let bs = certificate_bytes s es in
      let w = entries_written form.members None form.width (count_for form.members s) es holds in
      let b = subst (λ k. Behind 43 k (flat_map entry_bytes es) bs) holds.counts (statement_behind form.members s (length es) (flat_map entry_bytes es) f) in
      let good = certified_by s bs (count_for form.members s) (flat_map entry_bytes es) b refl w.long w.formed in
      record {
        entries = ap₂ (entries_of form.width) b.next b.past ∙ w.entries;
        reads = cond-true _ _ _ (le-leb 44 (length bs) (omega (arith, b.long)))
            ∙ (ap (certificate_saying form at bs) (statement_front form.members s (length es ∷ flat_map entry_bytes es) f) ∙ cond-true _ _ _ good);
      }

  pub certificate_back : (at : ℕ) (c : CertificatePart) → CertificateFits form at c → read_certificate form at c.bytes ≡ Some c
  certificate_back at c f =
      subst₂ (λ b a. read_certificate form at b ≡ Some (record { statement = c.statement; bytes = b; at = a })) f.layout (sym f.place)
      (certificate_stands at c.statement (certificate_entries form.width c.bytes) f.statements f.holds).reads

pub genesis_certified : GenesisCertified
genesis_certified form = ap (option_map certificate) (certificate_stands form 1 genesis [] (inl refl) (record { counts = refl; each = tt; rising = tt })).reads
