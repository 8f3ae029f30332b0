-- A head's first 43 bytes are those of a statement with the parent's id, and are read as one.
use Rattle.std.proofs.Common.{◌≡◌, ℕ, ◌+◌, ◌-◌, ◌<◌, ◌≤◌, true, eqb, List, length, get_or, take, drop, Some, None, ap, ◌∙◌, sym, subst, ◌⊎◌, inl, inr, arith}
use Rattle.std.specs.List.{between}
use Rattle.std.proofs.lemmas.List.{get_or-take, get_or-drop, length-take, drop-take, take-take}
use Rattle.std.proofs.lemmas.Bool.{and_parts, cases_eq}
use Rattle.std.proofs.lemmas.Bool.Decides.{nat_tests}
use Rattle.std.proofs.lemmas.Option.{cond_some}
use Rattle.digest.specs.Bytes.{number16, number32}
use Rattle.blocks.specs.declared.statement.Statement.{Statement}
use Rattle.blocks.specs.Statements.{statement_of, statement_formed, read_statement}
use Rattle.blocks.specs.Heads.{read_head}
use Rattle.blocks.proofs.RoundTrips.{heading}

module _ (n : ℕ) (bs : List ℕ) where
  byte : (i : ℕ) → i < 43 → get_or (take 43 bs) i 0 ≡ get_or bs i 0
  byte i h = get_or-take 43 bs i 0 h

  numbers : (i : ℕ) → i + 3 < 43 → number32 (take 43 bs) i ≡ number32 bs i
  numbers i h = omega (arith, byte i (omega arith), byte (i + 1) (omega arith), byte (i + 2) (omega arith), byte (i + 3) (omega arith))

  ids : between 11 43 (take 43 bs) ≡ between 11 43 bs
  ids = ap (take 32) (drop-take 11 32 bs) ∙ take-take 32 32 (drop 11 bs) (omega arith)

  pub fields : statement_of (take 43 bs) ≡ statement_of bs
  fields =
      let k0 = byte 0 (omega arith) in
      let k1 = byte 1 (omega arith) in
      let k2 = byte 2 (omega arith) in
      let v = numbers 3 (omega arith) in
      let r = numbers 7 (omega arith) in
      let i = ids in
      cc

  -- the front is 43 bytes exactly if all are 45
  long : (s : Statement) → read_statement n (take (length bs - 2) bs) ≡ Some s → length bs ≡ 45
  long s e =
      let k = length-take (length bs - 2) bs in
      grind (arith, nat_tests)

  payloads : length bs ≡ 45 → number16 (drop (length bs - 2) bs) 0 ≡ number16 bs 43
  payloads e = rw (e, get_or-drop 43 bs 0 0, get_or-drop 43 bs 1 0)

  pub head_unformed : read_statement n (take (length bs - 2) bs) ≡ None → read_head n bs ≡ None
  head_unformed e = elim (cases_eq (length bs) 45) [
    | inl l ↦
        let k : length (take 43 bs) ≡ 43 = simp length-take (omega arith) in
        let k0 = byte 0 (omega arith) in
        let k1 = byte 1 (omega arith) in
        let k2 = byte 2 (omega arith) in
        let e' : read_statement n (take 43 bs) ≡ None = subst (λ m. read_statement n (take (m - 2) bs) ≡ None) l e in
        unformed l k k0 k1 k2 e'
    | inr ne ↦ short ne
  ]
    where
      short : (length bs ≡ 45 → ⊥) → read_head n bs ≡ None
      short ne = grind (arith, nat_tests)

      unformed : length bs ≡ 45 → length (take 43 bs) ≡ 43 → get_or (take 43 bs) 0 0 ≡ get_or bs 0 0 → get_or (take 43 bs) 1 0 ≡ get_or bs 1 0
          → get_or (take 43 bs) 2 0 ≡ get_or bs 2 0 → read_statement n (take 43 bs) ≡ None → read_head n bs ≡ None
      unformed l k k0 k1 k2 e = grind (arith, nat_tests)

  module _ (s : Statement) (p : ℕ) (e : read_statement n (take (length bs - 2) bs) ≡ Some s) (q : p ≡ number16 (drop (length bs - 2) bs) 0) where
    same : read_statement n (take 43 bs) ≡ Some s
    same = subst (λ m. read_statement n (take (m - 2) bs) ≡ Some s) (long s e) e

    is : s ≡ statement_of bs
    is = sym (cond_some _ (statement_of (take 43 bs)) s same).1 ∙ fields

    formed : statement_formed n (take 43 bs) ≡ true
    formed = (and_parts (eqb (length (take 43 bs)) 43) (statement_formed n (take 43 bs)) (cond_some _ (statement_of (take 43 bs)) s same).0).1

    pub head_refused : (s.proposer ≡ 0) ⊎ (192 < p) → read_head n bs ≡ None
    head_refused h =
        let i = is in
        let m = payloads (long s e) in
        grind (arith, nat_tests)

    pub head_taken : (s.proposer ≡ 0 → ⊥) → p ≤ 192 → read_head n bs ≡ Some (heading s p)
    head_taken ne le =
        let i = is in
        let l = long s e in
        let m = payloads l in
        let f = formed in
        let k0 = byte 0 (omega arith) in
        let k1 = byte 1 (omega arith) in
        let k2 = byte 2 (omega arith) in
        grind (arith, nat_tests)
