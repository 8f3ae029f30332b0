-- The share of the lowest-numbered member.
use Rattle.std.specs.Prelude.{◌≡◌, ℕ, List, [], ◌∷◌, nat_lt, slice_index_or}
use Rattle.std.proofs.Common.{ap, ◌∙◌, arith}
use Rattle.std.specs.List.{AllByRecursion}
use Rattle.std.proofs.lemmas.Bool.{cond_both}
use Rattle.coin.specs.declared.shares.Share.{Share}
use Rattle.coin.specs.Shares.{nobody, Known, Dealing, Dealt, WellFormed, member_of}
use Rattle.coin.specs.Drawing.{Equal, lower, lowest, drawn_for, drawn_by}
use Rattle.coin.specs.Pieces.{all_both}

-- what holds of each holds of the lowest
lowest_has : (P : Share → Type 0) (s : Share) (ss : List Share) → P s → AllByRecursion P ss → P (lowest s ss)
lowest_has P s [] p all = p
lowest_has P s (t ∷ ts) p all = lowest_has P (lower s t) ts (cond_both (nat_lt t.member s.member) t s P (λ _. all.0) (λ _. p)) all.1

first_has : (P : Share → Type 0) (n greatest : ℕ) (shares : List Share) → WellFormed n greatest shares → AllByRecursion P shares → P (lowest (slice_index_or shares 0 nobody) shares)
first_has P n greatest [] formed all = let e = formed.count in absurd (omega arith)
first_has P n greatest (s ∷ ss) formed all = lowest_has P s (s ∷ ss) all.0 all

pub elects : (n : ℕ) (d : Dealing) → Equal n d → (view : ℕ) (shares : List Share) → WellFormed n 65535 shares → Dealt d view shares → drawn_by n shares ≡ drawn_for n d view
elects n d equal view shares formed dealt =
    let same = all_both (Known n) (λ t. t.value ≡ d view t.member) (λ t. t.value ≡ d view 1) (λ t k e. e ∙ equal view t.member k) shares formed.known dealt in
    ap (member_of n) (first_has (λ t. t.value ≡ d view 1) n 65535 shares formed same)
