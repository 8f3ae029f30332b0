-- A certificate that is written field after field: statement, count, entries.
use Rattle.std.proofs.Common.{◌≡◌, ℕ, ◌+◌, ◌≤◌, cond, List, [], ◌∷◌, ◌++◌, length, drop, Option, sym, ap, ◌∙◌, subst, arith}
use Rattle.std.proofs.lemmas.List.{length-append}
use Rattle.std.proofs.lemmas.Bool.{and_from, le-leb}
use Rattle.blocks.specs.Layout.{fits, pasted}
use Rattle.blocks.specs.Statements.{statement_bytes}
use Rattle.tally.specs.Walk.{kept_alike}
use Rattle.collect.specs.declared.items.KeptVote.{KeptVote}
use Rattle.collect.specs.Items.{vote_alike, vote_tail, built}
use Rattle.collect.specs.Build.{places_most, written_at_start, built_bytes, certificate_of}
use Rattle.collect.proofs.Entries.{as_many}
use Rattle.collect.proofs.Pasting.{Left, two_fields}

-- where each place has a number and there is room, what is written at a buffer's start is laid over it
pub written_whole : {T X : Type 0} (places : List (Option T)) (out xs : List X) → length places ≤ places_most → length xs ≤ length out → written_at_start places out xs ≡ xs ++ drop (length xs) out
written_whole places out xs numbers room = ap (λ b. cond b (xs ++ drop (length xs) out) out) (and_from _ _ (le-leb (length places) places_most numbers) (le-leb (length xs) (length out) room))

module _ (width : ℕ) (vote : KeptVote) (places : List (Option KeptVote)) (s : List ℕ) (is : s ≡ statement_bytes vote.statement) where
  abbrev entries : List ℕ
  entries = built_bytes vote_alike (vote_tail width) vote places

  pub certificate_long : (bytes : ℕ) → bytes ≡ length entries → length (certificate_of width vote places) ≡ (length s + 1) + bytes
  certificate_long bytes many =
      let n = length (built vote_alike (vote_tail width) vote places) in
      let sum = length-append s (n ∷ entries) in
      ap (λ (q : List ℕ). length (q ++ (n ∷ entries))) (sym is) ∙ omega (arith, sum)

  pub head_written : (old out1 out2 : List ℕ) (at1 at2 n : ℕ) → n ≡ length (kept_alike vote_alike vote places 0) → length (certificate_of width vote places) ≤ length old
      → out1 ≡ cond (fits old 0 s) (pasted old 0 s) old → at1 ≡ cond (fits old 0 s) (0 + length s) 0
      → out2 ≡ cond (fits out1 at1 (n ∷ [])) (pasted out1 at1 (n ∷ [])) out1 → at2 ≡ cond (fits out1 at1 (n ∷ [])) (at1 + length (n ∷ [])) at1
      → Left old 0 (certificate_of width vote places) out2 at2 entries
  head_written old out1 out2 at1 at2 n many room e1 n1 e2 n2 =
      let count = many ∙ sym (as_many (vote_tail width) (kept_alike vote_alike vote places 0)) in
      let whole = ap (λ (q : List ℕ). q ++ (n ∷ entries)) is ∙ ap (λ (m : ℕ). statement_bytes vote.statement ++ (m ∷ entries)) count in
      let fit = subst (λ (w : List ℕ). length w ≤ length old) (sym whole) room in
      subst (λ (w : List ℕ). Left old 0 w out2 at2 entries) whole (two_fields old out1 out2 at1 at2 s (n ∷ []) entries fit e1 n1 e2 n2)
