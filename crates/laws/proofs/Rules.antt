-- What follows where no rule is broken, and where one is.
use Rattle.std.proofs.Common.{◌≡◌, ℕ, ◌≤◌, true, false, List, [], ◌∷◌, Some, None, Option, refl}
use Rattle.std.proofs.lemmas.Bool.{cond_both, both_ways}
use Rattle.member.specs.declared.state.Member.{Member}
use Rattle.member.specs.declared.types.Refusal.{Refusal}
use Rattle.member.specs.Rules.{Rule, first_broken, settled}
use Rattle.member.specs.States.{Lent, Left, refused}
use Rattle.member.specs.Words.{refusal_number}

abbrev pub NoneBroken : List Rule → Type 0
NoneBroken [] = Unit {0}
NoneBroken (r ∷ rs) = (r.broken ≡ false) × NoneBroken rs

pub none_broken : (rs : List Rule) → first_broken rs ≡ None → NoneBroken rs
none_broken [] e = tt
none_broken (r ∷ rs) e =
    cond_both r.broken (Some r.refusal) (first_broken rs) (λ o. o ≡ None → NoneBroken (r ∷ rs))
    (λ b q. cc)
    (λ b q. (b, none_broken rs q))
    e

-- what holds of every refusal, and of what is done where no rule is broken, holds of what is settled
pub settles : {S : Type 0} (m : Member) (l : Lent S) (rs : List Rule) (done : Left S) (P : Left S → Type 0) → ((e : Refusal) → P (refused m l e)) →
    (first_broken rs ≡ None → NoneBroken rs → P done) → P (settled (first_broken rs) m l done)
settles m l rs done P refuses does = by_first (first_broken rs) refl
  where
    by_first : (o : Option Refusal) → first_broken rs ≡ o → P (settled o m l done)
    by_first None e = does e (none_broken rs e)
    by_first (Some x) e = refuses x

-- a rule is broken, and neither its number nor one of those before it is above n
pub data Broken (n : ℕ) : List Rule → Type 0 where
  here : {r : Rule} {rs : List Rule} → r.broken ≡ true → refusal_number r.refusal ≤ n → Broken n (r ∷ rs)
  later : {r : Rule} {rs : List Rule} → refusal_number r.refusal ≤ n → Broken n rs → Broken n (r ∷ rs)

-- the first that is broken
pub record First (n : ℕ) (o : Option Refusal) : Type 0 where
  pub refusal : Refusal
  pub is : o ≡ Some refusal
  pub numbered : refusal_number refusal ≤ n

pub first : (n : ℕ) (rs : List Rule) → Broken n rs → First n (first_broken rs)
first n [] b = elim b [ ]
first n (r ∷ rs) (here b low) =
    cond_both r.broken (Some r.refusal) (first_broken rs) (First n) (λ e. record { refusal = r.refusal; is = refl; numbered = low })
    (λ e. absurd (both_ways r.broken e b))
first n (r ∷ rs) (later low rest) =
    cond_both r.broken (Some r.refusal) (first_broken rs) (First n) (λ e. record { refusal = r.refusal; is = refl; numbered = low })
    (λ e. first n rs rest)
