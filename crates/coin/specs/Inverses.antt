-- The inverses modulo 257, and their rule: one test, computed over the whole table.
use Rattle.std.specs.Prelude.{◌≡◌, ℕ, ◌+◌, ◌-◌, ◌*◌, ◌%◌, ◌<◌, map, replicate, slice_index, slice_index_or, refl}
use Rattle.std.proofs.Common.{sym, ap, ◌∙◌, arith}
use Rattle.std.specs.List.{range_with_len}
use Rattle.std.proofs.lemmas.List.{get_or-replicate}
use Rattle.std.proofs.lemmas.List.FromFn.{get_or-map-range_with_len}
use Rattle.coin.specs.Interpolation.{inverse_of, inverses, Inverse}

abbrev product : ℕ → ℕ
product a = a * slice_index inverses (a - 1) % 257

-- each of 1 to 256 times its entry is 1
computed : map product (range_with_len 1 256) ≡ replicate 256 1
computed = refl

pub entry : (a : ℕ) → 0 < a → a < 257 → Inverse a (slice_index inverses (a - 1))
entry a h l =
    let here : a - 1 < 256 = omega arith in
    let place : 1 + (a - 1) ≡ a = omega arith in
    let is : slice_index_or inverses (a - 1) 0 ≡ inverse_of a = get_or-map-range_with_len inverse_of 1 256 (a - 1) a 0 here place in
    record {
      is = is;
      inverts = sym (get_or-map-range_with_len product 1 256 (a - 1) a 0 here place) ∙ ap (λ xs. slice_index xs (a - 1)) computed ∙ get_or-replicate 256 (a - 1) 1 0 here;
      below = omega arith;
    }

pub inverse_law : (a : ℕ) → 0 < a → a < 257 → a * inverse_of a % 257 ≡ 1
inverse_law a h l = let e = entry a h l in ap (λ r. a * r % 257) (sym e.is) ∙ e.inverts
