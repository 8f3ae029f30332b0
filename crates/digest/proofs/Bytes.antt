-- A number that is written as bytes reads back, and bytes that are read as a number write back.
use Rattle.std.proofs.Common.{◌≡◌, ℕ, ◌+◌, ◌*◌, ◌/◌, ◌%◌, ◌^◌, ◌<◌, List, [], ◌∷◌, ◌++◌, arith}
use Rattle.digest.specs.Bytes.{bytes16, bytes32, number16, number32}

pub number16_bytes16 : (n : ℕ) (rest : List ℕ) → n < 2 ^ 16 → number16 (bytes16 n ++ rest) 0 ≡ n
number16_bytes16 n rest h = omega arith

pub bytes16_number : (a b : ℕ) → a < 256 → b < 256 → bytes16 (a * 256 + b) ≡ a ∷ b ∷ []
bytes16_number a b ha hb =
    let e : (a * 256 + b) / 256 % 256 ≡ a = omega arith in
    let f : (a * 256 + b) % 256 ≡ b = omega arith in
    rw (e, f)

pub number32_bytes32 : (n : ℕ) (rest : List ℕ) → n < 2 ^ 32 → number32 (bytes32 n ++ rest) 0 ≡ n
number32_bytes32 n rest h = omega arith

pub bytes32_number : (a b c d : ℕ) → a < 256 → b < 256 → c < 256 → d < 256 → bytes32 (a * 16777216 + b * 65536 + c * 256 + d) ≡ a ∷ b ∷ c ∷ d ∷ []
bytes32_number a b c d ha hb hc hd =
    let n = a * 16777216 + b * 65536 + c * 256 + d in
    let e : n / 16777216 % 256 ≡ a = omega arith in
    let f : n / 65536 % 256 ≡ b = omega arith in
    let g : n / 256 % 256 ≡ c = omega arith in
    let h : n % 256 ≡ d = omega arith in
    rw (e, f, g, h)
