-- Newton's interpolation finds the value at 0 of the polynomial on which the shares lie.
use Rattle.std.specs.Prelude.{◌≡◌, ℕ, zero, suc, ◌+◌, ◌*◌, ◌%◌, ◌<◌, List, [], ◌∷◌, map, length, refl}
use Rattle.std.proofs.Common.{sym, ap, ◌∙◌, arith}
use Rattle.std.specs.List.{AllByRecursion}
use Rattle.std.proofs.lemmas.List.{length-map, nil_from_length}
use Rattle.coin.specs.declared.shares.Share.{Share}
use Rattle.coin.specs.Shares.{Known, AllKnown, Other, Apart, Dealing, Dealt, WellFormed, member_of}
use Rattle.coin.specs.Polynomials.{eval, Sound, winner_of}
use Rattle.coin.specs.Interpolation.{inverse_of, reduce, at_zero, elected_by}
use Rattle.coin.specs.Algebra.{run_positive, division_step, slope, constant}
use Rattle.coin.specs.Inverses.{inverse_law}
use Rattle.coin.specs.Reduced.{apart_reduced}
use Rattle.coin.specs.Pieces.{all_map, all_weaker, all_both}

-- the coefficients of (c + x p - its value at x0) / (x - x0)
abbrev quotient : ℕ → List ℕ → List ℕ
quotient x0 [] = []
quotient x0 (a ∷ p) = eval (a ∷ p) x0 ∷ quotient x0 p

length_quotient : (x0 : ℕ) (p : List ℕ) → length (quotient x0 p) ≡ length p
length_quotient x0 [] = refl
length_quotient x0 (a ∷ p) = ap suc (length_quotient x0 p)

division : (c : ℕ) (p : List ℕ) (x0 x : ℕ) → eval (c ∷ p) x + x0 * eval (quotient x0 p) x ≡ eval (c ∷ p) x0 + x * eval (quotient x0 p) x
division c [] x0 x = omega arith
division c (a ∷ p) x0 x = division_step c x x0 (eval (a ∷ p) x) (eval (a ∷ p) x0) (eval (quotient x0 p) x) (division a p x0 x)

-- the share lies on the polynomial
abbrev On : List ℕ → Share → Type 0
On p s = s.value ≡ eval p s.member % 257

module _ (c : ℕ) (p : List ℕ) (s : Share) (s-known : Known 256 s) (s-on : On (c ∷ p) s) where
  reduced_on : (t : Share) → Known 256 t → Other s t → On (c ∷ p) t → On (quotient s.member p) (reduce s t)
  reduced_on t known other on =
      let x0 = s.member in
      let x = t.member in
      let run = (x + 256 * x0) % 257 in
      let inverts = inverse_law run (run_positive x x0 known.1 s-known.1 other) (omega arith) in
      ap (λ v. (v + 256 * s.value) % 257 * inverse_of run % 257) on
      ∙ ap (λ v. (eval (c ∷ p) x % 257 + 256 * v) % 257 * inverse_of run % 257) s-on
      ∙ slope (eval (c ∷ p) x) (eval (c ∷ p) x0) x x0 (eval (quotient x0 p) x) (inverse_of run) (division c p x0 x) inverts

  all_reduced : (ts : List Share) → AllKnown 256 ts → AllByRecursion (Other s) ts → AllByRecursion (On (c ∷ p)) ts → AllByRecursion (On (quotient s.member p)) (map (reduce s) ts)
  all_reduced [] known other on = tt
  all_reduced (t ∷ ts) known other on = (reduced_on t known.0 other.0 on.0, all_reduced ts known.1 other.1 on.1)

interpolates : (k : ℕ) (ss : List Share) (p : List ℕ) → length ss ≡ k → length p ≡ length ss → AllKnown 256 ss → Apart ss → AllByRecursion (On p) ss → at_zero k ss ≡ eval p 0 % 257
interpolates zero ss p count degree known apart on = let empty : length p ≡ 0 = omega arith in sym (ap (λ q. eval q 0 % 257) (nil_from_length p empty))
interpolates (suc k) [] p count degree known apart on = absurd (omega arith)
interpolates (suc k) (s ∷ ss) [] count degree known apart on = absurd (omega arith)
interpolates (suc k) (s ∷ ss) (c ∷ p) count degree known apart on =
    let x0 = s.member in
    let q = quotient x0 p in
    let rest : at_zero k (map (reduce s) ss) ≡ eval q 0 % 257 = interpolates k (map (reduce s) ss) q
    (length-map ss (reduce s) ∙ omega arith)
    (length_quotient x0 p ∙ omega arith ∙ sym (length-map ss (reduce s)))
    (all_map (Known 256) (reduce s) ss known.1)
    (apart_reduced s ss apart.1)
    (all_reduced c p s known.0 on.0 ss known.1 apart.0 on.1) in
    ap (λ v. (v + 256 * (x0 * at_zero k (map (reduce s) ss))) % 257) on.0
    ∙ ap (λ z. (eval (c ∷ p) x0 % 257 + 256 * (x0 * z)) % 257) rest
    ∙ constant (eval (c ∷ p) 0) (eval (c ∷ p) x0) x0 (eval q 0) (division c p x0 0)

-- shares of a sound dealing give the value at 0 of their view's polynomial
pub secret_found : (n : ℕ) (d : Dealing) (s : Sound n d) (view : ℕ) (shares : List Share) → n < 257 → WellFormed n 256 shares → Dealt d view shares → at_zero (length shares) shares ≡ eval (s view).coefficients 0 % 257
secret_found n d s view shares small formed dealt =
    let curve = s view in
    let known = all_weaker (Known n) (Known 256) (λ t k. (k.0, omega arith)) shares formed.known in
    let on = all_both (Known n) (λ t. t.value ≡ d view t.member) (On curve.coefficients) (λ t k e. e ∙ curve.through t.member k) shares formed.known dealt in
    interpolates (length shares) shares curve.coefficients refl (curve.degree ∙ sym formed.count) known formed.apart on

pub elects : (n : ℕ) (d : Dealing) (s : Sound n d) (view : ℕ) (shares : List Share) → n < 257 → WellFormed n 256 shares → Dealt d view shares → elected_by n shares ≡ winner_of n d s view
elects n d s view shares small formed dealt = ap (member_of n) (secret_found n d s view shares small formed dealt)
