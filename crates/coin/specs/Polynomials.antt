-- Polynomials modulo 257: the dealings that lie on them, and how one is dealt.
use Rattle.std.specs.Prelude.{◌≡◌, ℕ, ◌+◌, ◌*◌, ◌%◌, ◌≤◌, List, [], ◌∷◌, length, Some, None, Option}
use Rattle.std.specs.List.{AllByRecursion}
use Rattle.coin.specs.Shares.{Dealing, size, Member, member_of}

-- the polynomial with these coefficients, the constant first, at x
abbrev pub eval : List ℕ → ℕ → ℕ
eval [] x = 0
eval (c ∷ cs) x = c + x * eval cs x

-- one polynomial of degree at most f has each member's value at that member's number, modulo 257
pub record Curve (n : ℕ) (values : ℕ → ℕ) : Type 0 where
  pub coefficients : List ℕ
  pub degree : length coefficients ≡ size n
  pub through : (m : ℕ) → Member n m → values m ≡ eval coefficients m % 257

-- in each view the members' values lie on such a polynomial
abbrev pub Sound : ℕ → Dealing → Type 0
Sound n d = (view : ℕ) → Curve n (d view)

-- the view's winner is elected by its polynomial's value at 0
abbrev pub winner_of : (n : ℕ) (d : Dealing) → Sound n d → ℕ → ℕ
winner_of n d s view = member_of n (eval (s view).coefficients 0 % 257)

-- all are residues modulo 257
abbrev pub Residues : List ℕ → Type 0
Residues cs = AllByRecursion (λ c. c ≤ 256) cs

-- the coefficients make a polynomial of degree at most f, and m is one of the members to deal to
pub record Dealable (n : ℕ) (cs : List ℕ) (m : ℕ) : Type 0 where
  pub degree : length cs ≡ size n
  pub residues : Residues cs
  pub member : Member n m

-- what the polynomial deals to the member m: its value there, and none only where that may not be dealt
abbrev pub Deals : ℕ → List ℕ → ℕ → Option ℕ → Type 0
Deals n cs m (Some v) = Dealable n cs m × (v ≡ eval cs m % 257)
Deals n cs m None = Dealable n cs m → ⊥

-- values that were so dealt, from one polynomial for each view, make a sound dealing
abbrev pub DealingsAreSound : Type 0
DealingsAreSound = (n : ℕ) (p : ℕ → List ℕ) (d : Dealing) → 1 ≤ n → ((view m : ℕ) → Member n m → Deals n (p view) m (Some (d view m))) → Sound n d
