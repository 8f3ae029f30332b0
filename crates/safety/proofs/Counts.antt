-- Votes that are counted: every weight is 1, and there are 3f + 1 members for f faults.
use Rattle.std.proofs.Common.{◌≡◌, ℕ, zero, suc, ◌+◌, ◌*◌, List, [], ◌∷◌, length, arith}
use Rattle.safety.specs.Lists.{total}
use Rattle.safety.specs.Committees.{Committee, up_to, total_weight, Counted}
use Rattle.safety.specs.Theorems.{CountsAQuorum}

total_count : (w : ℕ → ℕ) → ((m : ℕ) → w m ≡ 1) → (l : List ℕ) → total w l ≡ length l
total_count w one [] = omega arith
total_count w one (m ∷ l) = omega (arith, one m, total_count w one l)

length_up_to : (n : ℕ) → length (up_to n) ≡ n
length_up_to zero = omega arith
length_up_to (suc n) = omega (arith, length_up_to n)

total_all : (c : Committee) (f : ℕ) → Counted c f → total_weight c ≡ 3 * f + 1
total_all c f k = omega (arith, total_count c.weight k.each_one (up_to c.members), length_up_to c.members, k.size)

pub counts_a_quorum : (f q : ℕ) → q ≡ 2 * f + 1 → CountsAQuorum f q
counts_a_quorum f q e = record {
  third = λ c k. omega (arith, total_all c f k, k.tolerated);
  enough = λ c k s many. omega (arith, total_all c f k, k.tolerated, total_count c.weight k.each_one s);
  needed = λ c k s heavy. omega (arith, total_all c f k, k.tolerated, total_count c.weight k.each_one s);
}
