-- The parts of a tag under pair keys have 16 bytes each, and part k is the one under key k.
use Rattle.std.specs.Prelude.{◌≡◌, ℕ, zero, suc, ◌+◌, ◌-◌, ◌*◌, ◌/◌, ◌<◌, ◌≤◌, List, [], ◌∷◌, ◌++◌, length, take, drop, slice_index_or, refl}
use Rattle.std.proofs.Common.{sym, ap, ◌∙◌, mul-suc, mul-zero, arith}
use Rattle.std.specs.List.{flat_map}
use Rattle.std.proofs.lemmas.List.{drop_at, drop-drop, length-append, length-take-le, take_at}
use Rattle.digest.specs.Bytes.{bytes32}
use Rattle.digest.specs.Words.{initial}
use Rattle.digest.specs.Compression.{compression}
use Rattle.digest.specs.Digest.{padded, chained, digest}
use Rattle.digest.specs.Hmac.{authentication}
use Rattle.attest.specs.Parts.{part_bytes, pair_part, pair_tag, part_at}

-- pieces of one length, joined
length_joined : {X : Type 0} (f : X → List ℕ) (k : ℕ) → ((x : X) → length (f x) ≡ k) → (xs : List X) → length (flat_map f xs) ≡ k * length xs
length_joined f k each [] = omega arith
length_joined f k each (x ∷ xs) =
    omega (arith, length-append (f x) (flat_map f xs), each x, length_joined f k each xs, mul-suc k (length xs))

piece_joined : {X : Type 0} (f : X → List ℕ) (k : ℕ) → ((x : X) → length (f x) ≡ k) → (xs : List X) (i : ℕ) (d : X) → i < length xs → take k (drop (k * i) (flat_map f xs)) ≡ f (slice_index_or xs i d)
piece_joined f k each [] i d h = absurd (omega arith)
piece_joined f k each (x ∷ xs) zero d h =
    ap (λ (n : ℕ). take k (drop n (f x ++ flat_map f xs))) (mul-zero k) ∙ take_at (f x) (flat_map f xs) k (each x)
piece_joined f k each (x ∷ xs) (suc i) d h =
    let past : k * suc i ≡ k + k * i = omega (arith, mul-suc k i) in
    ap (λ (n : ℕ). take k (drop n (f x ++ flat_map f xs))) past
    ∙ ap (take k) (sym (drop-drop (k * i) k (f x ++ flat_map f xs)) ∙ ap (drop (k * i)) (drop_at (f x) (flat_map f xs) k (each x)))
    ∙ piece_joined f k each xs i d (omega arith)

length_chained : (H m : List ℕ) (n : ℕ) → length H ≡ 8 → length (chained H m n) ≡ 8
unfolding compression
length_chained H m zero h = h
length_chained H m (suc n) h = refl

length_digest : (m : List ℕ) → length (digest m) ≡ 32
unfolding digest
length_digest m =
    let n = length (padded m) / 64 in
    length_joined bytes32 4 (λ x. refl) (chained initial (padded m) n) ∙ ap (λ (k : ℕ). 4 * k) (length_chained initial (padded m) n refl)

length_authentication : (key text : List ℕ) → length (authentication key text) ≡ 32
unfolding authentication
length_authentication key text = length_digest _

pub length_part : (words key : List ℕ) → length (pair_part words key) ≡ part_bytes
length_part words key = length-take-le part_bytes (authentication key words) (omega (arith, length_authentication key words))

pub length_tag : (keys : List (List ℕ)) (words : List ℕ) → length (pair_tag keys words) ≡ part_bytes * length keys
length_tag keys words = length_joined (pair_part words) part_bytes (length_part words) keys

-- part k of a tag is under the key of receiver k
pub part_of_tag : (keys : List (List ℕ)) (words : List ℕ) (k : ℕ) → 1 ≤ k → k ≤ length keys → part_at k (pair_tag keys words) ≡ pair_part words (slice_index_or keys (k - 1) [])
part_of_tag keys words k one most =
    let wide : part_bytes * k - part_bytes * (k - 1) ≡ part_bytes = omega arith in
    ap (λ (n : ℕ). take n (drop (part_bytes * (k - 1)) (pair_tag keys words))) wide
    ∙ piece_joined (pair_part words) part_bytes (length_part words) keys (k - 1) [] (omega arith)
