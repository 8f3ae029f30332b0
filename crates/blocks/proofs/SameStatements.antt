-- Statements that say the same are equal, and each says what it says itself.
use Rattle.std.proofs.Common.{◌≡◌, ℕ, true, eqb, List, refl, arith}
use Rattle.std.specs.Str.{bytes_eq}
use Rattle.std.proofs.lemmas.Bool.{and_from, and_parts, eq-eqb, eqb-true}
use Rattle.std.proofs.lemmas.Slice.Eq.{bytes_eq-Decides}
use Rattle.blocks.specs.declared.rank.Kind.{Kind}
use Rattle.blocks.specs.declared.rank.Kind.TheVariants.{Regular, Fallback}
use Rattle.blocks.specs.declared.statement.Statement.{Statement}
use Rattle.blocks.specs.Ranks.{kind_number, view, round}
use Rattle.blocks.specs.Sameness.{same_statement}

pub same_kind : (a b : Kind) → kind_number a ≡ kind_number b → a ≡ b
same_kind Regular Regular e = refl
same_kind Regular Fallback e = absurd (omega arith)
same_kind Fallback Regular e = absurd (omega arith)
same_kind Fallback Fallback e = refl

-- a statement by its parts
unfoldable made : Kind → ℕ → ℕ → ℕ → ℕ → List ℕ → Statement
made k h p v r i = record { kind = k; height = h; proposer = p; view = view v; round = round r; id = i }

made_of : (s : Statement) → s ≡ made s.kind s.height s.proposer s.view.0 s.round.0 s.id
unfolding made
made_of s = refl

itself : (n : ℕ) → eqb n n ≡ true
itself n = eq-eqb n n refl

pub same_itself : (s : Statement) → same_statement s s ≡ true
same_itself s =
    and_from _ _ (itself (kind_number s.kind)) (and_from _ _ (itself s.height) (and_from _ _ (itself s.proposer)
    (and_from _ _ (itself s.view.0) (and_from _ _ (itself s.round.0) ((bytes_eq-Decides s.id s.id).1 refl)))))

pub same_equal : (s t : Statement) → same_statement s t ≡ true → s ≡ t
same_equal s t e =
    let p0 = and_parts (eqb (kind_number s.kind) (kind_number t.kind)) _ e in
    let p1 = and_parts (eqb s.height t.height) _ p0.1 in
    let p2 = and_parts (eqb s.proposer t.proposer) _ p1.1 in
    let p3 = and_parts (eqb s.view.0 t.view.0) _ p2.1 in
    let p4 = and_parts (eqb s.round.0 t.round.0) (bytes_eq s.id t.id) p3.1 in
    let k : s.kind ≡ t.kind = same_kind _ _ (eqb-true _ _ p0.0) in
    let h : s.height ≡ t.height = eqb-true _ _ p1.0 in
    let p : s.proposer ≡ t.proposer = eqb-true _ _ p2.0 in
    let v : s.view.0 ≡ t.view.0 = eqb-true _ _ p3.0 in
    let r : s.round.0 ≡ t.round.0 = eqb-true _ _ p4.0 in
    let i : s.id ≡ t.id = (bytes_eq-Decides s.id t.id).0 p4.1 in
    let e1 = made_of s in
    let e2 = made_of t in
    cc
