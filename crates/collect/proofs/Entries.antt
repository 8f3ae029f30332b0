-- The entries of a walk, one kept item after the other.
use Rattle.std.proofs.Common.{◌≡◌, ℕ, suc, ◌+◌, ◌<◌, List, [], ◌∷◌, length, refl, ap, ◌∙◌, subst, arith}
use Rattle.std.specs.List.{All, flat_map, sum_by}
use Rattle.std.proofs.lemmas.List.{length-append}
use Rattle.std.proofs.lemmas.List.Elements.{All-head, All-tail}
use Rattle.std.proofs.lemmas.List.Sums.{sum_by-cons}
use Rattle.collect.specs.Build.{places_most}
use Rattle.blocks.specs.Layout.{pasted}
use Rattle.wire.specs.Layouts.{entry_bytes}
use Rattle.collect.specs.Items.{entries_from}
use Rattle.collect.proofs.Pasting.{Left, left_pasted}

module _ {T : Type 0} (tail : T → List ℕ) where
  -- the bytes of a walk's entries
  abbrev pub bytes_of : List (ℕ × T) → List ℕ
  bytes_of walk = flat_map entry_bytes (entries_from tail walk)

  pub as_many : (walk : List (ℕ × T)) → length (entries_from tail walk) ≡ length walk
  as_many [] = refl
  as_many (k ∷ walk) = ap suc (as_many walk)

  -- what an item's entry and the others are together
  pub length_bytes : (walk : List (ℕ × T)) → length (bytes_of walk) ≡ sum_by (λ met. 1 + length (tail met.1)) walk
  length_bytes [] = refl
  length_bytes (k ∷ walk) = let rest = length_bytes walk in omega (arith, length-append (tail k.1) (bytes_of walk), sum_by-cons (λ met. 1 + length (tail met.1)) k walk)

  -- the entries of the walk `all` are on their way into a buffer, and those of the walk `left` are still to be written at `at`
  pub record Entering (old : List ℕ) (first : ℕ) (all : List (ℕ × T)) (out : List ℕ) (at : ℕ) (left : List (ℕ × T)) : Type 0 where
    pub numbers : All (λ met. met.0 < places_most) left
    pub written : Left old first (bytes_of all) out at (bytes_of left)

  module _ {old : List ℕ} {first : ℕ} {all : List (ℕ × T)} {out : List ℕ} {at : ℕ} {left : List (ℕ × T)} (e : Entering old first all out at left) (k : ℕ) (x : T) (rest : List (ℕ × T)) (is : left ≡ (k, x) ∷ rest) where
    numbers_on : All (λ (met : ℕ × T). met.0 < places_most) ((k, x) ∷ rest)
    numbers_on = subst (All (λ (met : ℕ × T). met.0 < places_most)) is e.numbers

    pub has_number : k < places_most
    has_number = All-head (λ (met : ℕ × T). met.0 < places_most) (k, x) rest numbers_on

    -- one entry more
    pub one_entered : {out' : List ℕ} {at' : ℕ} → out' ≡ pasted out at ((k + 1) ∷ tail x) → at' ≡ at + (1 + length (tail x)) → Entering old first all out' at' rest
    one_entered now to = record {
      numbers = All-tail (λ (met : ℕ × T). met.0 < places_most) (k, x) rest numbers_on;
      written = left_pasted ((k + 1) ∷ tail x) (bytes_of rest) (subst (λ walk. Left old first (bytes_of all) out at (bytes_of walk)) is e.written) now (to ∙ omega arith);
    }
