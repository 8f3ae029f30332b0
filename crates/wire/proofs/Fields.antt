-- Fields, written one after another.
use Rattle.std.proofs.Common.{◌≡◌, ℕ, ◌+◌, ◌<◌, ◌≤◌, List, [], ◌++◌, length, get_or, take, Err, Bor, sym, ap, ◌∙◌}
use Rattle.std.specs.List.{flat_map}
use Rattle.std.proofs.lemmas.List.{take_more, flat_map_more}
use Rattle.std.proofs.lemmas.List.Folds.{length-flat_map-take}
use Rattle.std.proofs.lemmas.Bool.{lt-leb}
use Rattle.wire.specs.Writing.{writing, written}

-- the bytes of the fields
abbrev pub joined : List (Bor (List ℕ)) → List ℕ
joined fields = flat_map (λ f. f.now) fields

-- what stands for a field past the last
abbrev pub nothing : Bor (List ℕ)
nothing = record { ref_ptr = (0, 0); now = [] }

-- one field more
pub joined_more : (fields : List (Bor (List ℕ))) (i : ℕ) → i < length fields → joined (take i fields) ++ (get_or fields i nothing).now ≡ joined (take (i + 1) fields)
joined_more fields i below = flat_map_more (λ f. f.now) [] (take i fields) (get_or fields i nothing) ∙ sym (ap joined (take_more fields i nothing below))

-- its bytes are among those of all
pub joined_room : (fields : List (Bor (List ℕ))) (i : ℕ) → i < length fields → length (joined (take i fields)) + length (get_or fields i nothing).now ≤ length (joined fields)
joined_room fields i below = length-flat_map-take (λ f. f.now) fields i nothing below

-- nothing is written where there is no room
pub refuses : (out m : List ℕ) → length out < length m → (Err (record {}) ≡ writing out m) × (out ≡ written out m)
refuses out m short = let e = lt-leb (length m) (length out) short in (rw e, rw e)
