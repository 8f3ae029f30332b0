-- Hexadecimal text byte by byte.
use Rattle.std.proofs.Common.{◌≡◌, ℕ, zero, suc, ◌+◌, ◌-◌, ◌/◌, ◌%◌, ◌^◌, ◌<◌, false, List, [], ◌∷◌, ◌++◌, length, get_or, take, refl, ap, ◌∙◌, arith}
use Rattle.std.specs.Fmt.{padded_integral, format_spec, digits}
use Rattle.std.proofs.lemmas.Fmt.{hex_byte}
use Rattle.walkthrough.specs.Hex.{hex_digit, hex_text}

-- the text of one byte more
hex_more : (bs : List ℕ) (i : ℕ) → i < length bs → hex_text (take i bs) ++ (hex_digit (get_or bs i 0 / 16) ∷ hex_digit (get_or bs i 0 % 16) ∷ []) ≡ hex_text (take (suc i) bs)
hex_more [] i h = absurd (omega arith)
hex_more (b ∷ bs) zero h = refl
hex_more (b ∷ bs) (suc i) h = ap (λ (l : List ℕ). hex_digit (b / 16) ∷ hex_digit (b % 16) ∷ l) (hex_more bs i (omega arith))

-- the same with the byte as `{:02x}` writes it
pub hex_written : (bs : List ℕ) (i : ℕ) → i < length bs → get_or bs i 0 < 256
    → hex_text (take i bs) ++ padded_integral (format_spec 32 0 4 2 (2 ^ 64 - 1)) false [] (digits 16 false (get_or bs i 0)) ≡ hex_text (take (i + 1) bs)
hex_written bs i within small =
    let next : suc i ≡ i + 1 = omega arith in
    ap (λ (l : List ℕ). hex_text (take i bs) ++ l) (hex_byte false (get_or bs i 0) small)
    ∙ hex_more bs i within
    ∙ ap (λ (n : ℕ). hex_text (take n bs)) next
