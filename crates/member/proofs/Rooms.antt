-- Every certificate of a group has room in a place of the shelf, and every message in the outgoing buffer.
use Rattle.std.proofs.Common.{◌≡◌, ℕ, ◌+◌, ◌*◌, ◌≤◌, max, Bool, true, false, cond, ◌||◌, eqb, sym, subst, ⊎_elim, mul-le-mul, arith}
use Rattle.std.proofs.lemmas.Bool.{eqb-true, or_cases}
use Rattle.std.proofs.lemmas.Bool.Decides.{nat_tests}
use Rattle.attest.specs.declared.attestor.Attestor.{Ghosts}
use Rattle.blocks.specs.declared.statement.Statement.{Statement}
use Rattle.wire.specs.Certificates.{count_for}
use Rattle.wire.specs.declared.form.Form.{Form}
use Rattle.wire.specs.Forms.{form_of}
use Rattle.wire.specs.Quorums.{quorum}
use Rattle.member.specs.Shelf.{certificate_length}
use Rattle.member.specs.Sizes.{group_size}

-- a group has 4, 7, 10 or 13 members: what holds of these holds of each
pub at_each_size : (P : ℕ → Type 0) (n : ℕ) → group_size n ≡ true → P 4 → P 7 → P 10 → P 13 → P n
at_each_size P n e p4 p7 p10 p13 =
    ⊎_elim (λ h. subst P (sym (eqb-true n 4 h)) p4)
    (λ r. ⊎_elim (λ h. subst P (sym (eqb-true n 7 h)) p7)
    (λ q. ⊎_elim (λ h. subst P (sym (eqb-true n 10 h)) p10) (λ h. subst P (sym (eqb-true n 13 h)) p13)
    (or_cases (eqb n 10) (eqb n 13) q))
    (or_cases (eqb n 7) (eqb n 10 || eqb n 13) r))
    (or_cases (eqb n 4) (eqb n 7 || (eqb n 10 || eqb n 13)) e)

count_most : (n : ℕ) (b : Bool) → cond b 0 (quorum n) ≤ quorum n
count_most n true = omega arith
count_most n false = omega arith

-- a certificate has at most 1,925 bytes
certificate_room : (n w : ℕ) (s : Statement) → group_size n ≡ true → w ≤ 16 * max 4 n → 44 + count_for n s * (1 + w) ≤ 1925
certificate_room n w s size narrow =
    let most : count_for n s * (1 + w) ≤ quorum n * (1 + w) = mul-le-mul (count_most n (eqb s.proposer 0)) (omega arith) in
    let each : quorum n * (1 + w) ≤ 1881 =
    at_each_size (λ k. w ≤ 16 * max 4 k → quorum k * (1 + w) ≤ 1881) n size (λ h. omega arith) (λ h. omega arith) (λ h. omega arith) (λ h. omega arith) narrow in
    omega arith

-- the tags of a group's attestor
narrow_tags : (per fixed n : ℕ) → ((k : ℕ) → 4 ≤ k → per * k + fixed ≤ 16 * k) → group_size n ≡ true → per * n + fixed ≤ 16 * max 4 n
narrow_tags per fixed n narrow size =
    let four : 4 ≤ n = grind (arith, nat_tests) in
    omega (arith, narrow n four)

-- so a certificate that is read or written against a group's form has room
pub certificate_fits : {S : Type 0} (a : Ghosts S) (n : ℕ) (f : Form) (s : Statement) → f ≡ form_of a n 0 → group_size n ≡ true → certificate_length f s ≤ 1925
certificate_fits a n f s is size =
    subst (λ (k : Form). certificate_length k s ≤ 1925) (sym is)
    (certificate_room n (a.per_member * n + a.fixed) s size (narrow_tags a.per_member a.fixed n a.laws.narrow size))
