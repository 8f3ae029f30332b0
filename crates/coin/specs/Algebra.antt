-- What Newton's interpolation needs of numbers modulo 257, where 256 stands for -1.
use Rattle.std.specs.Prelude.{◌≡◌, ℕ, ◌+◌, ◌*◌, ◌%◌, ◌<◌, ◌≤◌, ◌≢◌}
use Rattle.std.proofs.Common.{sym, ap, ◌∙◌, add-mul, mul-add, mul_assoc, mul_comm, mul_left_comm, one-mul, arith}
use Rattle.std.proofs.lemmas.Nat.{mul-mod_first, mul-mod_second}

-- numbers up to 256 that differ have a difference other than 0
pub run_positive : (x x0 : ℕ) → x ≤ 256 → x0 ≤ 256 → x ≢ x0 → 0 < (x + 256 * x0) % 257
run_positive x x0 h h0 ne = omega arith

-- one step of a synthetic division
pub division_step : (c x x0 p p0 q : ℕ) → p + x0 * q ≡ p0 + x * q → (c + x * p) + x0 * (p0 + x * q) ≡ (c + x0 * p0) + x * (p0 + x * q)
division_step c x x0 p p0 q ih =
    let moved : x * (p0 + x * q) ≡ x * (p + x0 * q) = ap (λ y. x * y) (sym ih) in
    omega (arith, moved, mul-add x p (x0 * q), mul-add x0 p0 (x * q), mul_left_comm x x0 q)

-- the rise over the run is the quotient's value: y and y0 at x and x0, q the quotient at x, v the inverse of the run
pub slope : (y y0 x x0 q v : ℕ) → y + x0 * q ≡ y0 + x * q → (x + 256 * x0) % 257 * v % 257 ≡ 1 → (y % 257 + 256 * (y0 % 257)) % 257 * v % 257 ≡ q % 257
slope y y0 x x0 q v h inverts =
    let run = x + 256 * x0 in
    let spread : run * q ≡ x * q + 256 * (x0 * q) = add-mul x (256 * x0) q ∙ ap (λ z. x * q + z) (mul_assoc 256 x0 q) in
    let rise : (y % 257 + 256 * (y0 % 257)) % 257 ≡ run * q % 257 = omega (arith, spread) in
    let turned : run * q * v ≡ run * v * q = mul_assoc run q v ∙ ap (λ z. run * z) (mul_comm q v) ∙ sym (mul_assoc run v q) in
    ap (λ z. z * v % 257) rise ∙ mul-mod_first (run * q) v 257 ∙ ap (λ z. z % 257) turned ∙ sym (mul-mod_first (run * v) q 257)
    ∙ ap (λ z. z * q % 257) (sym (mul-mod_first run v 257) ∙ inverts) ∙ ap (λ z. z % 257) (one-mul q)

-- the value at 0, from that at x0 and the quotient's value at 0
pub constant : (c y0 x0 q : ℕ) → c + x0 * q ≡ y0 + 0 * q → (y0 % 257 + 256 * (x0 * (q % 257))) % 257 ≡ c % 257
constant c y0 x0 q h = omega (arith, mul-mod_second x0 q 257)
