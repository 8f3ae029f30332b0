-- What a hasher has absorbed after more bytes.
use Rattle.std.proofs.Common.{◌≡◌, ℕ, ◌+◌, ◌-◌, ◌*◌, ◌/◌, ◌%◌, ◌^◌, ◌<◌, List, [], ◌++◌, length, get_or, take, drop, fold, sym, refl, ap, ◌∙◌, subst, arith}
use Rattle.std.specs.Simd.{first_chunks}
use Rattle.std.proofs.lemmas.List.{append-nil, append_assoc, length-append, length-drop, length-take-le, take-append-drop, take_at, drop_all}
use Rattle.digest.specs.declared.hasher.Sha256.{Sha256}
use Rattle.digest.specs.Words.{initial}
use Rattle.digest.specs.Compression.{compression}
use Rattle.digest.specs.Digest.{chained}
use Rattle.digest.specs.Streaming.{Absorbed, Absorbs}
use Rattle.digest.proofs.Chains.{drop_past, joined, one_chained, resumed, chained_blocks, rejoined}

-- the bytes that a hasher holds in `partial`, followed by more
abbrev pub held : Sha256 → List ℕ → List ℕ
held h more = take (h.length % 64) h.partial ++ more

-- what taking in more bytes does to a hasher
pub record Took (h : Sha256) (more : List ℕ) (now : Sha256) : Type 0 where
  pub blocks : now.state ≡ chained h.state (held h more) (length (held h more) / 64)
  pub rest : take (length (held h more) % 64) now.partial ≡ drop (64 * (length (held h more) / 64)) (held h more)
  pub count : now.length ≡ (h.length + length more) % 2 ^ 64

absorbed_more : (h now : Sha256) (more : List ℕ) → Took h more now → (bytes : List ℕ) → Absorbed h bytes → Absorbed now (bytes ++ more)
absorbed_more h now more took bytes had =
    let n = length bytes in
    let q = n / 64 in
    let f = take (64 * q) bytes in
    let t = drop (64 * q) bytes in
    let all = t ++ more in
    let place : h.length % 64 ≡ n % 64 = omega (arith, had.count) in
    let tail : held h more ≡ all = ap (λ (i : ℕ). take i h.partial ++ more) place ∙ ap (λ (x : List ℕ). x ++ more) had.rest in
    let whole : bytes ++ more ≡ f ++ all = ap (λ (x : List ℕ). x ++ more) (sym (take-append-drop (64 * q) bytes)) ∙ append_assoc f t more in
    let long : length f ≡ 64 * q = length-take-le (64 * q) bytes (omega arith) in
    let left : length t ≡ n - 64 * q = length-drop (64 * q) bytes in
    let some : length all ≡ length t + length more = length-append t more in
    let sum : length (bytes ++ more) ≡ n + length more = length-append bytes more in
    let blocks : q + length all / 64 ≡ length (bytes ++ more) / 64 = omega arith in
    let over : length (bytes ++ more) % 64 ≡ length all % 64 = omega arith in
    record {
      blocks =
          took.blocks ∙ ap (λ (x : List ℕ). chained h.state x (length x / 64)) tail
          ∙ ap (λ (x : List ℕ). chained x all (length all / 64)) had.blocks
          ∙ sym (resumed initial bytes more q (length all / 64) (omega arith))
          ∙ ap (chained initial (bytes ++ more)) blocks;
      rest =
          ap (λ (i : ℕ). take i now.partial) (over ∙ ap (λ (x : List ℕ). length x % 64) (sym tail)) ∙ took.rest
          ∙ ap (λ (x : List ℕ). drop (64 * (length x / 64)) x) tail
          ∙ sym (drop_past f all (64 * (length (bytes ++ more) / 64)) (64 * (length all / 64)) (omega arith))
          ∙ ap (drop (64 * (length (bytes ++ more) / 64))) (sym whole);
      count = omega (arith, took.count, had.count);
    }

pub absorbs : (h : Sha256) (more : List ℕ) (now : Sha256) → Took h more now → Absorbs h more now
absorbs h more now took = record { first = absorbed_more h now more took []; next = absorbed_more h now more took }

pub took_hold : (h : Sha256) (more p : List ℕ) → h.length % 64 + length more < 64 → length h.partial ≡ 64
    → p ≡ take (h.length % 64) h.partial ++ (more ++ drop (h.length % 64 + length more) h.partial)
    → Took h more (record { state = h.state; partial = p; length = (h.length + length more) % 2 ^ 64 })
took_hold h more p short full e =
    let r = h.length % 64 in
    let front = take r h.partial in
    let all = front ++ more in
    let after = drop (r + length more) h.partial in
    let long : length front ≡ r = length-take-le r h.partial (omega arith) in
    let sum : length all ≡ length front + length more = length-append front more in
    let none : 0 ≡ length all / 64 = omega arith in
    let same : length all % 64 ≡ length all = omega arith in
    let start : 0 ≡ 64 * (length all / 64) = omega arith in
    record {
      blocks = ap (chained h.state all) none;
      rest =
          ap (λ (i : ℕ). take i p) same ∙ ap (take (length all)) (e ∙ sym (append_assoc front more after))
          ∙ take_at all after (length all) refl ∙ ap (λ (i : ℕ). drop i all) start;
      count = refl;
    }

pub took_fill : (h : Sha256) (part block s : List ℕ) → h.length % 64 + length part ≡ 64 → length h.partial ≡ 64
    → block ≡ take (h.length % 64) h.partial ++ (part ++ drop (h.length % 64 + length part) h.partial)
    → s ≡ compression h.state block
    → Took h part (record { state = s; partial = block; length = (h.length + length part) % 2 ^ 64 })
took_fill h part block s fits full blockE sE =
    let r = h.length % 64 in
    let front = take r h.partial in
    let past : drop (r + length part) h.partial ≡ [] = drop_all (r + length part) h.partial (omega arith) in
    let is : block ≡ front ++ part = blockE ∙ ap (λ (x : List ℕ). front ++ (part ++ x)) past ∙ ap (λ (x : List ℕ). front ++ x) (append-nil part) in
    let long : length front ≡ r = length-take-le r h.partial (omega arith) in
    let whole : length block ≡ 64 = ap length is ∙ length-append front part ∙ (omega arith) in
    let one : 1 ≡ length block / 64 = omega arith in
    let none : length block % 64 ≡ 0 = omega arith in
    record {
      blocks = sE ∙ one_chained h.state block whole ∙ ap (chained h.state block) one ∙ ap (λ (x : List ℕ). chained h.state x (length x / 64)) is;
      rest =
          ap (λ (x : List ℕ). take (length x % 64) block) (sym is) ∙ ap (λ (i : ℕ). take i block) none
          ∙ sym (drop_all (64 * (length block / 64)) block (omega arith)) ∙ ap (λ (x : List ℕ). drop (64 * (length x / 64)) x) is;
      count = refl;
    }

took_blocks : (h : Sha256) (blocks s : List ℕ) → h.length % 64 ≡ 0 → length blocks % 64 ≡ 0
    → s ≡ chained h.state blocks (length blocks / 64)
    → Took h blocks (record { state = s; partial = h.partial; length = (h.length + length blocks) % 2 ^ 64 })
took_blocks h blocks s none whole sE =
    let is : blocks ≡ held h blocks = ap (λ (i : ℕ). take i h.partial ++ blocks) (sym none) in
    record {
      blocks = sE ∙ ap (λ (x : List ℕ). chained h.state x (length x / 64)) is;
      rest =
          ap (λ (x : List ℕ). take (length x % 64) h.partial) (sym is) ∙ ap (λ (i : ℕ). take i h.partial) whole
          ∙ sym (drop_all (64 * (length blocks / 64)) blocks (omega arith)) ∙ ap (λ (x : List ℕ). drop (64 * (length x / 64)) x) is;
      count = refl;
    }

pub absorbs_blocks : (h : Sha256) (bs : List (List ℕ)) (blocks s : List ℕ) → h.length % 64 ≡ 0
    → ((i : ℕ) → i < length bs → length (get_or bs i []) ≡ 64) → blocks ≡ joined bs → length blocks ≡ length bs * 64 → s ≡ fold compression h.state bs
    → Absorbs h (joined bs) (record { state = s; partial = h.partial; length = (h.length + length blocks) % 2 ^ 64 })
absorbs_blocks h bs blocks s none size is long sE =
    let count : length bs ≡ length blocks / 64 = omega arith in
    let whole = sE ∙ chained_blocks h.state bs size ∙ ap (λ (x : List ℕ). chained h.state x (length bs)) (sym is) ∙ ap (chained h.state blocks) count in
    let now : Sha256 = record { state = s; partial = h.partial; length = (h.length + length blocks) % 2 ^ 64 } in
    subst (λ (x : List ℕ). Absorbs h x now) is (absorbs h blocks now (took_blocks h blocks s none (omega arith) whole))

absorbs_both : (h i j : Sha256) (a b : List ℕ) → Absorbs h a i → Absorbs i b j → Absorbs h (a ++ b) j
absorbs_both h i j a b one two = record {
  first = λ had. two.next a (one.first had);
  next = λ bytes had. subst (Absorbed j) (append_assoc bytes a b) (two.next (bytes ++ a) (one.next bytes had));
}

-- bytes that are absorbed in three parts: those up to `room`, then whole blocks, then what is left
pub absorbs_parts : (h i j k : Sha256) (more part rest last : List ℕ) (blocks : List (List ℕ)) (room n : ℕ) → part ≡ take room more → rest ≡ drop room more
    → blocks ≡ first_chunks 64 n rest → last ≡ drop (n * 64) rest → Absorbs h part i → Absorbs i (joined blocks) j → Absorbs j last k → Absorbs h more k
absorbs_parts h i j k more part rest last blocks room n partE restE blocksE lastE one two three =
    let later = absorbs_both i j k (joined blocks) last two three in
    let is : joined blocks ++ last ≡ rest = ap (λ (x : List (List ℕ)). joined x ++ last) blocksE ∙ ap (λ (x : List ℕ). joined (first_chunks 64 n rest) ++ x) lastE ∙ rejoined n rest in
    let all = absorbs_both h i k part rest one (subst (λ (x : List ℕ). Absorbs i x k) is later) in
    subst (λ (x : List ℕ). Absorbs h x k) (ap (λ (x : List ℕ). x ++ rest) partE ∙ ap (λ (x : List ℕ). take room more ++ x) restE ∙ take-append-drop room more) all
