-- The book keeps the laws of an attestor.
use Rattle.std.specs.Prelude.{◌≡◌, ℕ, ◌+◌, ◌<◌, min, true, List, [], ◌∷◌, ◌++◌, length, get_or, ◌==◌, nat_le, nat_lt, slice_index_or, refl}
use Rattle.std.proofs.Common.{sym, ap, ◌∙◌, arith}
use Rattle.std.proofs.lemmas.Slice.Eq.{bytes_eq-Decides}
use Rattle.std.proofs.lemmas.List.{get_or_append_left, get_or_at, length-append, length-take-le, take_at, take_more_set}
use Rattle.std.proofs.lemmas.Bool.{and_from, and_parts, eq-eqb, lt-ltb, ltb-true}
use Rattle.digest.specs.Bytes.{number32}
use Rattle.digest.proofs.Bytes.{number32_bytes32}
use Rattle.attest.specs.Limits.{words_most}
use Rattle.attest.specs.Laws.{Laws}
use Rattle.attest.specs.Entry.{blank, entry_of, entry_holds}
use Rattle.attest.specs.Book.{book_most, entered, holds_at, book_accepts, book_signs, book_tag, book_signed}
use Rattle.attest.specs.declared.book.Book.{Book}
use Rattle.attest.specs.declared.entry.Entry.{Entry}

-- a book that signs is not full
pub record Free (b : Book) : Type 0 where
  pub few : b.count < book_most
  pub room : b.count < length b.entries.now

free : (b : Book) (words : List ℕ) → book_signs b words ≡ true → Free b
free b words ok =
    let parts = and_parts (nat_le (length words) words_most) (nat_lt b.count (min book_most (length b.entries.now))) ok in
    let below : b.count < min book_most (length b.entries.now) = ltb-true _ _ parts.1 in
    record { few = omega arith; room = omega arith }

-- signing appends one entry
pub appended : (b : Book) (words : List ℕ) → book_signs b words ≡ true
    → entered (book_signed b words) ≡ entered b ++ entry_of b.owner words ∷ []
appended b words ok = take_more_set b.entries.now b.count (entry_of b.owner words) (free b words ok).room

-- an entry holds what it was made of, at the place where it is appended
holds_new : (es : List Entry) (place signer : ℕ) (words : List ℕ) → length es ≡ place → holds_at (es ++ entry_of signer words ∷ []) place signer words ≡ true
holds_new es place signer words here =
    let new = entry_of signer words in
    let long : length (es ++ new ∷ []) ≡ length es + 1 = length-append es (new ∷ []) in
    let found : get_or (es ++ new ∷ []) place blank ≡ new = get_or_at es new [] blank place here in
    let same : entry_holds new signer words ≡ true = and_from _ _ (eq-eqb signer signer refl) ((bytes_eq-Decides _ _).1 (sym (take_at words _ _ refl))) in
    and_from _ _ (lt-ltb place (length (es ++ new ∷ [])) (omega arith)) (ap (λ (e : Entry). entry_holds e signer words) found ∙ same)

-- what an entry holds it holds in a longer book
holds_more : (es more : List Entry) (place signer : ℕ) (words : List ℕ) → holds_at es place signer words ≡ true → holds_at (es ++ more) place signer words ≡ true
holds_more es more place signer words ok =
    let parts = and_parts (nat_lt place (length es)) (entry_holds (slice_index_or es place blank) signer words) ok in
    let below : place < length es = ltb-true _ _ parts.0 in
    let long : length (es ++ more) ≡ length es + length more = length-append es more in
    let found : get_or (es ++ more) place blank ≡ get_or es place blank = get_or_append_left es more blank place below in
    and_from _ _ (lt-ltb place (length (es ++ more)) (omega arith)) (ap (λ (e : Entry). entry_holds e signer words) found ∙ parts.1)

given_accepted_lem : (b : Book) (words : List ℕ) → book_signs b words ≡ true → book_accepts (book_signed b words) b.owner words (book_tag b words) ≡ true
given_accepted_lem b words ok =
    let f = free b words ok in
    let place : number32 (book_tag b words) 0 ≡ b.count = number32_bytes32 b.count [] (omega arith) in
    let long : length (entered b) ≡ b.count = length-take-le b.count b.entries.now (omega arith) in
    ap (λ (k : ℕ). holds_at (entered (book_signed b words)) k b.owner words) place
    ∙ ap (λ (es : List Entry). holds_at es b.count b.owner words) (appended b words ok)
    ∙ holds_new (entered b) b.count b.owner words long

accepted_stays_lem : (b : Book) (words : List ℕ) → book_signs b words ≡ true
    → (s : ℕ) (said tag : List ℕ) → book_accepts b s said tag ≡ true → book_accepts (book_signed b words) s said tag ≡ true
accepted_stays_lem b words ok s said tag good =
    let k = number32 tag 0 in
    let parts = and_parts (length tag == 4) (holds_at (entered b) k s said) good in
    and_from _ _ parts.0
    (ap (λ (es : List Entry). holds_at es k s said) (appended b words ok) ∙ holds_more (entered b) (entry_of b.owner words ∷ []) k s said parts.1)

pub book_laws : Laws 0 4 (λ (b : Book). b.owner) (λ b. b.group.number) book_accepts book_signs book_tag book_signed
book_laws = record {
  narrow = λ n h. omega arith;
  few = λ b. b.group.few;
  owner_stays = λ b w. refl;
  members_stay = λ b w. refl;
  tag_width = λ b w. omega arith;
  given_accepted = given_accepted_lem;
  accepted_stays = accepted_stays_lem;
}
