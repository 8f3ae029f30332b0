use Rattle.std.proofs.Common.{◌≡◌, ℕ, ◌+◌, ◌-◌, ◌<◌, ◌≤◌, true, ◌&&◌, eqb, leb, List, [], length, get_or, sym, ap, ◌∙◌, arith}
use Rattle.std.specs.Str.{bytes_eq}
use Rattle.std.proofs.lemmas.Slice.Eq.{bytes_eq-Decides}
use Rattle.std.proofs.lemmas.List.{get_or_append_left}
use Rattle.std.proofs.lemmas.Bool.{and_parts, eqb-true, leb-true}
use Rattle.attest.specs.Limits.{max_members}
use Rattle.attest.specs.PairKeys.{fit, padded}
use Rattle.attest.proofs.pair_keys.PairKeys.new.Goals as goal

record Fitting (owner : ℕ) (s r : List (List ℕ)) : Type 0 where
  more : length r ≡ length s + 1
  first : 1 ≤ owner
  among : owner ≤ length s
  same : get_or s (owner - 1) [] ≡ get_or r owner []

fitting : (owner : ℕ) (s r : List (List ℕ)) → fit owner s r ≡ true → Fitting owner s r
fitting owner s r ok =
    let shared = bytes_eq (get_or s (owner - 1) []) (get_or r owner []) in
    let a = and_parts (leb (length s) max_members) (eqb (length r) (length s + 1) && (leb 1 owner && (leb owner (length s) && shared))) ok in
    let b = and_parts (eqb (length r) (length s + 1)) (leb 1 owner && (leb owner (length s) && shared)) a.1 in
    let c = and_parts (leb 1 owner) (leb owner (length s) && shared) b.1 in
    let d = and_parts (leb owner (length s)) shared c.1 in
    record {
      more = eqb-true _ _ b.0;
      first = leb-true _ _ c.0;
      among = leb-true _ _ d.0;
      same = (bytes_eq-Decides _ _).0 d.1;
    }

-- a key of a row stays where it was
kept : (keys row : List (List ℕ)) (i : ℕ) → row ≡ padded keys → i < length keys → get_or row i [] ≡ get_or keys i []
kept keys row i e h = ap (λ (x : List (List ℕ)). get_or x i []) e ∙ get_or_append_left keys _ [] i h

-- the rows agree on the key of the member with itself
agreed : (owner : ℕ) (s r rowS rowR : List (List ℕ)) → fit owner s r ≡ true → rowS ≡ padded s → rowR ≡ padded r → get_or rowS (owner - 1) [] ≡ get_or rowR owner []
agreed owner s r rowS rowR ok sE rE =
    let f = fitting owner s r ok in
    kept s rowS (owner - 1) sE (omega (arith, f.first, f.among)) ∙ f.same ∙ sym (kept r rowR owner rE (omega (arith, f.more, f.among)))

pub invariant_of-result-clause-paired : goal.invariant_of-result-clause-paired
invariant_of-result-clause-paired c =
    agreed c.args.owner c.args.sending.now c.args.receiving.now c.row.result c.row-2.result (sym c.fits.ensures ∙ c.if-not-fits.false) c.row.ensures c.row-2.ensures
