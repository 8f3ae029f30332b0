-- Fields that are written one after another from a place on: what is still to be written decides what the buffer will hold.
use Rattle.std.proofs.Common.{◌≡◌, ℕ, ◌+◌, ◌≤◌, true, cond, List, [], ◌++◌, length, take, drop, sym, refl, ap, ◌∙◌, subst, add-zero, zero-add, arith}
use Rattle.std.proofs.lemmas.List.{append_assoc, append-nil, length-append, length-drop, length-take-le, take_at, drop_at, drop-drop, take-append-drop}
use Rattle.std.proofs.lemmas.Bool.{le-leb}
use Rattle.blocks.specs.Layout.{fits, pasted, overlay}

pasted_none : (out : List ℕ) (at : ℕ) → pasted out at [] ≡ out
pasted_none out at = rw add-zero (take-append-drop at out)

pasted_more : (out ys rest : List ℕ) (at : ℕ) → at ≤ length out → pasted (pasted out at ys) (at + length ys) rest ≡ pasted out at (ys ++ rest)
pasted_more out ys rest at le =
    let start = take at out ++ ys in
    let end = drop (at + length ys) out in
    let long : length start ≡ at + length ys = length-append (take at out) ys ∙ ap (λ n. n + length ys) (length-take-le at out le) in
    let whole : pasted out at ys ≡ start ++ end = sym (append_assoc (take at out) ys end) in
    let front : take (at + length ys) (pasted out at ys) ≡ start = ap (take (at + length ys)) whole ∙ take_at start end _ long in
    let sums : (at + length ys) + length rest ≡ at + length (ys ++ rest) = omega (arith, length-append ys rest) in
    let back : drop ((at + length ys) + length rest) (pasted out at ys) ≡ drop (at + length (ys ++ rest)) out =
    sym (drop-drop (length rest) (at + length ys) (pasted out at ys))
    ∙ (ap (drop (length rest)) (ap (drop (at + length ys)) whole ∙ drop_at start end _ long)
    ∙ (drop-drop (length rest) (at + length ys) out ∙ ap (λ n. drop n out) sums)) in
    ap (λ (f : List ℕ). f ++ (rest ++ drop ((at + length ys) + length rest) (pasted out at ys))) front
    ∙ (ap (λ (b : List ℕ). start ++ (rest ++ b)) back
    ∙ (append_assoc (take at out) ys (rest ++ drop (at + length (ys ++ rest)) out)
    ∙ ap (λ (q : List ℕ). take at out ++ q) (sym (append_assoc ys rest (drop (at + length (ys ++ rest)) out)))))

length_pasted : (out ys : List ℕ) (at : ℕ) → at + length ys ≤ length out → length (pasted out at ys) ≡ length out
length_pasted out ys at le =
    let front = length-take-le at out (omega arith) in
    simp (length-append, length-drop) (omega arith)

-- the buffer `out` is on its way from `old` to `old` with `whole` written at `first`: the rest is still to be written at `at`
pub record Left (old : List ℕ) (first : ℕ) (whole out : List ℕ) (at : ℕ) (rest : List ℕ) : Type 0 where
  pub bytes : pasted out at rest ≡ pasted old first whole
  pub end : at + length rest ≡ first + length whole
  pub long : length out ≡ length old
  pub room : first + length whole ≤ length old

pub left_all : (old whole : List ℕ) (first : ℕ) → first + length whole ≤ length old → Left old first whole old first whole
left_all old whole first room = record { bytes = refl; end = refl; long = refl; room = room }

-- one field more
pub left_pasted : {old whole out out' : List ℕ} {first at at' : ℕ} (ys rest : List ℕ) → Left old first whole out at (ys ++ rest)
    → out' ≡ pasted out at ys → at' ≡ at + length ys → Left old first whole out' at' rest
left_pasted {old} {whole} {out} {out'} {first} {at} {at'} ys rest l is to =
    let sum = length-append ys rest in
    let fit : at + length ys ≤ length out = omega (arith, l.end, l.long, l.room) in
    record {
      bytes = ap (λ b. pasted b at' rest) is ∙ (ap (λ k. pasted (pasted out at ys) k rest) to ∙ (pasted_more out ys rest at (omega arith) ∙ l.bytes));
      end = omega (arith, l.end);
      long = ap length is ∙ (length_pasted out ys at fit ∙ l.long);
      room = l.room;
    }

-- the same by `put`
pub left_more : {old whole out out' : List ℕ} {first at at' : ℕ} (ys rest : List ℕ) → Left old first whole out at (ys ++ rest)
    → out' ≡ cond (fits out at ys) (pasted out at ys) out → at' ≡ cond (fits out at ys) (at + length ys) at
    → Left old first whole out' at' rest
left_more {old} {whole} {out} {out'} {first} {at} {at'} ys rest l e n =
    let sum = length-append ys rest in
    let here : fits out at ys ≡ true = le-leb (at + length ys) (length out) (omega (arith, l.end, l.long, l.room)) in
    left_pasted ys rest l (e ∙ ap (λ b. cond b (pasted out at ys) out) here) (n ∙ ap (λ b. cond b (at + length ys) at) here)

-- the last field
pub left_last : {old whole out out' : List ℕ} {first at at' : ℕ} (ys : List ℕ) → Left old first whole out at ys
    → out' ≡ cond (fits out at ys) (pasted out at ys) out → at' ≡ cond (fits out at ys) (at + length ys) at
    → Left old first whole out' at' []
left_last {old} {whole} {out} {out'} {first} {at} ys l = left_more ys [] (subst (Left old first whole out at) (sym (append-nil ys)) l)

-- nothing is left
pub left_none : {old whole out : List ℕ} {first at : ℕ} → Left old first whole out at [] → (out ≡ pasted old first whole) × (at ≡ first + length whole)
left_none {old} {whole} {out} {first} {at} l = (sym (pasted_none out at) ∙ l.bytes, sym (add-zero at) ∙ l.end)

-- bytes that have room are pasted
pub pasted_whole : (old whole : List ℕ) (first : ℕ) → first + length whole ≤ length old → pasted old first whole ≡ cond (fits old first whole) (pasted old first whole) old
pasted_whole old whole first room = sym (ap (λ b. cond b (pasted old first whole) old) (le-leb (first + length whole) (length old) room))

-- two fields at the start of a buffer
pub two_fields : (old out1 out2 : List ℕ) (at1 at2 : ℕ) (xs ys zs : List ℕ) → length (xs ++ (ys ++ zs)) ≤ length old
    → out1 ≡ cond (fits old 0 xs) (pasted old 0 xs) old → at1 ≡ cond (fits old 0 xs) (0 + length xs) 0
    → out2 ≡ cond (fits out1 at1 ys) (pasted out1 at1 ys) out1 → at2 ≡ cond (fits out1 at1 ys) (at1 + length ys) at1
    → Left old 0 (xs ++ (ys ++ zs)) out2 at2 zs
two_fields old out1 out2 at1 at2 xs ys zs room e1 n1 e2 n2 =
    left_more ys zs (left_more xs (ys ++ zs) (left_all old (xs ++ (ys ++ zs)) 0 (omega arith)) e1 n1) e2 n2

-- the rest is pasted: the whole is then laid over the buffer's start
pub rest_pasted : (old whole out out' rest : List ℕ) (at end : ℕ) → Left old 0 whole out at rest → out' ≡ pasted out at rest → end ≡ at + length rest → (end ≡ length whole) × (out' ≡ overlay old whole)
rest_pasted old whole out out' rest at end l e n = (n ∙ (l.end ∙ zero-add (length whole)), e ∙ (l.bytes ∙ rw zero-add))
