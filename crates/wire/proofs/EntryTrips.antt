-- Entries that are read write back as the same bytes, and entries that are written read back.
use Rattle.std.proofs.Common.{◌≡◌, ℕ, zero, suc, ◌+◌, ◌*◌, ◌≤◌, true, ltb, leb, List, [], ◌∷◌, ◌++◌, length, get_or, take, drop, Some, None, Option, sym, refl, ap, ◌∙◌, subst, ap₂, suc-mul, arith}
use Rattle.std.specs.List.{flat_map, AllByRecursion}
use Rattle.std.proofs.lemmas.List.{length-append, length-drop, length-take-le, take_at, drop_at, take-append-drop, nil_from_length}
use Rattle.std.proofs.lemmas.Bool.{and_parts, and_from, leb-true, le-leb, lt-ltb, ltb-true}
use Rattle.digest.specs.Bytes.{number16}
use Rattle.wire.specs.Entries.{Entry, entries_of, within, entry_formed, entries_formed}
use Rattle.wire.specs.Layouts.{entry_bytes}
use Rattle.wire.specs.RoundTrips.{ValueFits, EntryFits, Rising, EntriesFit}

value_fits : (limit : Option ℕ) (value : ℕ) → within limit value ≡ true → ValueFits limit value
value_fits None value e = tt
value_fits (Some limit) value e = leb-true value limit e

value_within_lem : (limit : Option ℕ) (value : ℕ) → ValueFits limit value → within limit value ≡ true
value_within_lem None value f = refl
value_within_lem (Some limit) value f = le-leb value limit f

pub length_entries : (wide count : ℕ) (bs : List ℕ) → length (entries_of wide count bs) ≡ count
length_entries wide zero bs = refl
length_entries wide (suc count) bs = ap suc (length_entries wide count (drop (1 + wide) bs))

-- the bytes of the first entry
front : (wide : ℕ) (bs : List ℕ) → 1 ≤ length bs → take (1 + wide) bs ≡ get_or bs 0 0 ∷ take wide (drop 1 bs)
front wide [] some = absurd (omega arith)
front wide (b ∷ bs) some = let on : 1 + wide ≡ suc wide = omega arith in ap (λ k. take k (b ∷ bs)) on

module _ (n : ℕ) (limit : Option ℕ) (wide : ℕ) where
  -- what the entries of bytes with the form are
  pub record Read (count last : ℕ) (bs : List ℕ) : Type 0 where
    pub each : AllByRecursion (EntryFits n limit wide) (entries_of wide count bs)
    pub rising : Rising last (entries_of wide count bs)
    pub layout : flat_map entry_bytes (entries_of wide count bs) ≡ bs

  pub entries_read : (count last : ℕ) (bs : List ℕ) → length bs ≡ count * (1 + wide) → entries_formed n limit wide count last bs ≡ true → Read count last bs
  entries_read zero last bs long formed = record { each = tt; rising = tt; layout = sym (nil_from_length bs (omega arith)) }
  entries_read (suc count) last bs long formed =
      let split : length bs ≡ count * (1 + wide) + (1 + wide) = long ∙ suc-mul count (1 + wide) in
      let past = length-drop (1 + wide) bs in
      let past1 = length-drop 1 bs in
      let parts = and_parts (entry_formed n limit last (take (1 + wide) bs)) _ formed in
      let first = front wide bs (omega arith) in
      let above = and_parts (ltb last (get_or bs 0 0)) _ (ap (entry_formed n limit last) (sym first) ∙ parts.0) in
      let known = and_parts (leb (get_or bs 0 0) n) _ above.1 in
      let lower = ltb-true last (get_or bs 0 0) above.0 in
      let rest = entries_read count (get_or bs 0 0) (drop (1 + wide) bs) (omega arith) parts.1 in
      record {
        each = (
          record {
            signers = (omega arith, leb-true (get_or bs 0 0) n known.0);
            tails = length-take-le wide (drop 1 bs) (omega arith);
            values = value_fits limit _ known.1;
          },
          rest.each,
        );
        rising = (lower, rest.rising);
        layout = ap₂ ◌++◌ (sym first) rest.layout ∙ take-append-drop (1 + wide) bs;
      }

  pub read_fits : (count : ℕ) (bs : List ℕ) → Read count 0 bs → EntriesFit n limit wide count (entries_of wide count bs)
  read_fits count bs r = record { counts = length_entries wide count bs; each = r.each; rising = r.rising }

  -- what the bytes of entries that fit are
  pub record Written (count last : ℕ) (es : List Entry) : Type 0 where
    pub long : length (flat_map entry_bytes es) ≡ count * (1 + wide)
    pub formed : entries_formed n limit wide count last (flat_map entry_bytes es) ≡ true
    pub entries : entries_of wide count (flat_map entry_bytes es) ≡ es

  written : (last : ℕ) (es : List Entry) → AllByRecursion (EntryFits n limit wide) es → Rising last es → Written (length es) last es
  written last [] each rising = record { long = omega arith; formed = refl; entries = refl }
  written last (e ∷ es) each rising =
      let fits = each.0 in
      let bytes = flat_map entry_bytes es in
      let first : length (entry_bytes e) ≡ 1 + wide = omega (arith, fits.tails) in
      let cut = take_at (entry_bytes e) bytes (1 + wide) first in
      let past = drop_at (entry_bytes e) bytes (1 + wide) first in
      let rest = written e.signer es each.1 rising.1 in
      let known = and_from (leb e.signer n) _ (le-leb e.signer n fits.signers.1) (value_within_lem limit (number16 e.tail 0) fits.values) in
      let entry = and_from (ltb last e.signer) _ (lt-ltb last e.signer rising.0) known in
      record {
        long = length-append (entry_bytes e) bytes ∙ omega (arith, first, rest.long, suc-mul (length es) (1 + wide));
        formed = and_from _ _ (ap (entry_formed n limit last) cut ∙ entry) (ap (entries_formed n limit wide (length es) e.signer) past ∙ rest.formed);
        entries = ap₂ (λ tail others. record { signer = e.signer; tail = tail } ∷ others) (take_at e.tail bytes wide fits.tails) (ap (entries_of wide (length es)) past ∙ rest.entries);
      }

  pub entries_written : (count : ℕ) (es : List Entry) → EntriesFit n limit wide count es → Written count 0 es
  entries_written count es f = subst (λ k. Written k 0 es) f.counts (written 0 es f.each f.rising)
