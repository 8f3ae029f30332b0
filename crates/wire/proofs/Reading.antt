-- What has been read so far decides what is read.
use Rattle.std.proofs.Common.{cond, Ok, Err, ◌<◌, ◌⊎◌, inl, inr, eqb, lit≤, ◌≡◌, ℕ, ◌+◌, ◌-◌, ◌≤◌, true, List, length, get_or, take, drop, Some, None, Option, Result, sym, refl, ap, ap₂, ◌∙◌, arith}
use Rattle.std.specs.List.{IsSplitAt, slice_range}
use Rattle.std.specs.Option.{option_map, ok_or}
use Rattle.std.specs.Result.{IsErr}
use Rattle.std.proofs.lemmas.List.{take_rest, drop-drop}
use Rattle.std.proofs.lemmas.Bool.{and_from, cond-true, cond-false, le-leb, ne_eqb}
use Rattle.coin.specs.Shares.{is_member}
use Rattle.blocks.specs.declared.rank.View.{View}
use Rattle.wire.specs.declared.form.Form.{Form}
use Rattle.wire.specs.declared.message.Message.{Message}
use Rattle.wire.specs.declared.reader.Malformed.{Malformed}
use Rattle.wire.specs.Certificates.{CertificatePart, read_certificate}
use Rattle.wire.specs.Messages.{BlockPart, Text, proposal, timeout, read_block, proposal_of, read_proposal, read_timeout, by_kind, read_message}
use Rattle.wire.specs.Parts.{ViewFirst}
use Rattle.wire.specs.Told.{message_told, told}

-- a timeout is read where view, signer and tag are, and what follows them is a certificate
module _ (v : View) (signer : ℕ) (tag : List ℕ) where
  abbrev pub timeout_of : CertificatePart → Text
  timeout_of c = timeout (record { view = v; signer = signer; tag = tag; certificate = c })

pub timeout_by : (form : Form) (bs : List ℕ) (v : View) (signer : ℕ) (rest tag back : List ℕ) → ViewFirst bs v signer rest → IsSplitAt rest form.width tag back → is_member form.members signer ≡ true
    → option_map (timeout_of v signer tag) (read_certificate form (6 + form.width) back) ≡ read_timeout form bs
timeout_by form bs v signer rest tag back first cut member =
    let w = form.width in
    let certificate = λ (q : List ℕ). read_certificate form (6 + w) q in
    let past : back ≡ drop (5 + w) bs = cut.2 ∙ (ap (drop w) first.past ∙ drop-drop w 5 bs) in
    let mine : tag ≡ take w (drop 5 bs) = cut.1 ∙ ap (take w) first.past in
    let test = and_from _ _ (le-leb (5 + w) (length bs) (omega (arith, first.long, cut.0))) (ap (is_member form.members) (sym first.next) ∙ member) in
    ap₂ (λ t q. option_map (timeout_of v signer t) (certificate q)) mine past
    ∙ ap₂ (λ x y. option_map (timeout_of x y (take w (drop 5 bs))) (certificate (drop (5 + w) bs))) first.viewed first.next
    ∙ sym (cond-true _ _ _ test)

told_or : (o : Option Message) (e : Malformed) → told (ok_or o e) ≡ option_map message_told o
told_or (Some m) e = refl
told_or None e = refl

-- a message is read where the first byte is a kind's number
pub message_by : (form : Form) (m : List ℕ) (number : ℕ) (o : Option Message) (r : Result Message Malformed) (e : Malformed) → 1 ≤ length m → number ≡ get_or m 0 0
    → r ≡ ok_or o e → option_map message_told o ≡ by_kind form number (take (length m - 1) (drop 1 m)) → told r ≡ read_message form m
message_by form m number o r e long is given reads =
    ap told given ∙ told_or o e ∙ reads ∙ ap₂ (by_kind form) is (take_rest m 1) ∙ sym (cond-true _ _ _ (le-leb 1 (length m) long))

-- nor is one where it is none's
outside : (k i : ℕ) → (k < 1) ⊎ (7 < k) → 1 ≤ i → i ≤ 7 → k ≡ i → ⊥
outside k i (inl low) a b e = omega arith
outside k i (inr high) a b e = omega arith

past : (k i : ℕ) (x y : Option Text) → (k ≡ i → ⊥) → None ≡ y → None ≡ cond (eqb k i) x y
past k i x y apart rest = rest ∙ sym (cond-false _ x y (ne_eqb k i apart))

none_by : (form : Form) (k : ℕ) (bs : List ℕ) → (k < 1) ⊎ (7 < k) → None ≡ by_kind form k bs
none_by form k bs out =
    let off = λ (i : ℕ) (a : 1 ≤ i) (b : i ≤ 7). outside k i out a b in
    past k 1 _ _ (off 1 (lit≤ tt) (lit≤ tt)) (past k 2 _ _ (off 2 (lit≤ tt) (lit≤ tt)) (past k 3 _ _ (off 3 (lit≤ tt) (lit≤ tt)) (past k 4 _ _ (off 4 (lit≤ tt) (lit≤ tt))
    (past k 5 _ _ (off 5 (lit≤ tt) (lit≤ tt)) (past k 6 _ _ (off 6 (lit≤ tt) (lit≤ tt)) (past k 7 _ _ (off 7 (lit≤ tt) (lit≤ tt)) refl))))))

told_err : (r : Result Message Malformed) → IsErr r → told r ≡ None
told_err (Ok m) e = cc
told_err (Err e') e = refl

pub no_message : (form : Form) (m : List ℕ) (r : Result Message Malformed) → 1 ≤ length m → (get_or m 0 0 < 1) ⊎ (7 < get_or m 0 0) → IsErr r → told r ≡ read_message form m
no_message form m r long out e = told_err r e ∙ none_by form (get_or m 0 0) (drop 1 m) out ∙ sym (cond-true _ _ _ (le-leb 1 (length m) long))

-- a proposal is read where its block is, and what follows it is a certificate
pub proposal_by : (form : Form) (bs back : List ℕ) (b : BlockPart) → Some b ≡ read_block form 1 bs → back ≡ slice_range bs (length b.bytes) (length bs)
    → option_map (proposal b) (read_certificate form (1 + length b.bytes) back) ≡ read_proposal form bs
proposal_by form bs back b is cut =
    ap (λ q. option_map (proposal b) (read_certificate form (1 + length b.bytes) q)) (cut ∙ take_rest bs (length b.bytes)) ∙ ap (proposal_of form bs) is
