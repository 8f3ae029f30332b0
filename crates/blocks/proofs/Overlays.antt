-- A message that is written field after field.
use Rattle.std.proofs.Common.{◌≡◌, ℕ, ◌+◌, ◌≤◌, true, cond, List, [], ◌++◌, length, drop, sym, refl, ap, ◌∙◌, arith}
use Rattle.std.proofs.lemmas.List.{append_assoc, append-nil, length-append, length-drop, take_at, drop_at, drop-drop, drop_all}
use Rattle.std.proofs.lemmas.Bool.{le-leb}
use Rattle.blocks.specs.Layout.{fits, pasted, overlay}

drop_past : (m q : List ℕ) (k : ℕ) → drop (length m + k) (m ++ q) ≡ drop k q
drop_past m q k = sym (drop-drop k (length m) (m ++ q)) ∙ ap (drop k) (drop_at m q _ refl)

paste_overlay : (out m ys : List ℕ) → pasted (overlay out m) (length m) ys ≡ overlay out (m ++ ys)
paste_overlay out m ys =
    rw (take_at m (drop (length m) out) (length m) refl, drop_past m (drop (length m) out) (length ys), drop-drop (length ys) (length m) out, length-append m ys, append_assoc m ys (drop (length m + length ys) out))

length_overlay : (out m : List ℕ) → length m ≤ length out → length (overlay out m) ≡ length out
length_overlay out m le = simp (length-append, length-drop) (omega arith)

-- the buffer is `out` with the message m at its start, which ends at `at`
pub record Wrote (out m buffer : List ℕ) (at : ℕ) : Type 0 where
  pub bytes : buffer ≡ overlay out m
  pub end : at ≡ length m

pub wrote_none : (out : List ℕ) → Wrote out [] out 0
wrote_none out = record { bytes = refl; end = refl }

-- one field more, which has room
pub wrote_more : {out m buffer buffer' : List ℕ} {at at' : ℕ} (ys : List ℕ) → Wrote out m buffer at → length m + length ys ≤ length out
    → buffer' ≡ cond (fits buffer at ys) (pasted buffer at ys) buffer → at' ≡ cond (fits buffer at ys) (at + length ys) at
    → Wrote out (m ++ ys) buffer' at'
wrote_more {out} {m} {buffer} {buffer'} {at} ys w room e n =
    let same : length buffer ≡ length out = ap length w.bytes ∙ length_overlay out m (omega arith) in
    let here : fits buffer at ys ≡ true = le-leb (at + length ys) (length buffer) (omega (arith, w.end)) in
    record {
      bytes = e ∙ (ap (λ b. cond b (pasted buffer at ys) buffer) here ∙ (ap (λ b. pasted b at ys) w.bytes ∙ (ap (λ k. pasted (overlay out m) k ys) w.end ∙ paste_overlay out m ys)));
      end = n ∙ (ap (λ b. cond b (at + length ys) at) here ∙ (ap (λ k. k + length ys) w.end ∙ sym (length-append m ys)));
    }

-- the same for a field that is known to be ys
pub wrote_as : {out m buffer buffer' : List ℕ} {at at' : ℕ} (ys zs : List ℕ) → zs ≡ ys → Wrote out m buffer at → length m + length ys ≤ length out
    → buffer' ≡ cond (fits buffer at zs) (pasted buffer at zs) buffer → at' ≡ cond (fits buffer at zs) (at + length zs) at
    → Wrote out (m ++ ys) buffer' at'
wrote_as {out} {m} {buffer} {buffer'} {at} ys zs p w room e n =
    wrote_more ys w room (e ∙ ap (λ q. cond (fits buffer at q) (pasted buffer at q) buffer) p) (n ∙ ap (λ q. cond (fits buffer at q) (at + length q) at) p)

-- a message that fills the buffer
pub overlay_full : (out m : List ℕ) → length out ≤ length m → overlay out m ≡ m
overlay_full out m le = ap (λ q. m ++ q) (drop_all (length m) out le) ∙ append-nil m

-- the same message, bracketed in another way
pub wrote_same : {out m m' buffer : List ℕ} {at : ℕ} → m ≡ m' → Wrote out m buffer at → Wrote out m' buffer at
wrote_same {out} p w = record { bytes = w.bytes ∙ ap (overlay out) p; end = w.end ∙ ap length p }
