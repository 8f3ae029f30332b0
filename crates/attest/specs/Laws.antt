-- What every attestor keeps, whatever its scheme: signing changes neither owner nor group, a tag has the width that the two
-- constants give, the tag given is accepted from then on, and what was accepted stays accepted.
use Rattle.std.specs.Prelude.{◌≡◌, ℕ, ◌+◌, ◌*◌, ◌≤◌, Bool, true, List, length}
use Rattle.attest.specs.Limits.{max_members}

pub record Laws {S : Type 0} (per_member fixed : ℕ) (owner members : S → ℕ) (accepts : S → ℕ → List ℕ → List ℕ → Bool) (signs : S → List ℕ → Bool) (tag_of : S → List ℕ → List ℕ) (signed : S → List ℕ → S) : Type 0 where
  -- a tag takes at most 16 bytes a member
  pub narrow : (n : ℕ) → 4 ≤ n → per_member * n + fixed ≤ 16 * n
  pub few : (a : S) → members a ≤ max_members
  pub owner_stays : (a : S) (words : List ℕ) → owner (signed a words) ≡ owner a
  pub members_stay : (a : S) (words : List ℕ) → members (signed a words) ≡ members a
  pub tag_width : (a : S) (words : List ℕ) → length (tag_of a words) ≡ per_member * members a + fixed
  pub given_accepted : (a : S) (words : List ℕ) → signs a words ≡ true → accepts (signed a words) (owner a) words (tag_of a words) ≡ true
  pub accepted_stays : (a : S) (words : List ℕ) → signs a words ≡ true
      → (s : ℕ) (said tag : List ℕ) → accepts a s said tag ≡ true → accepts (signed a words) s said tag ≡ true
