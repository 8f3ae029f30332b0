-- Two tables that agree below a place give the same answers about the places below it.
use Rattle.std.proofs.Common.{◌≡◌, ℕ, zero, suc, ◌+◌, ◌<◌, ◌≤◌, min, Bool, true, cond, ◌&&◌, ◌||◌, eqb, ltb, List, ◌∷◌, length, set, is_some, IfSome, Some, None, Option, sym, refl, ap, ◌∙◌, arith}
use Rattle.std.specs.Str.{bytes_eq}
use Rattle.std.proofs.lemmas.List.{length-set, get_or-set_other}
use Rattle.std.proofs.lemmas.Bool.{cond_both}
use Rattle.table.specs.declared.held.Held.{Held}
use Rattle.table.specs.Places.{at, genesis, up, lookup_from}
use Rattle.table.specs.Ancestry.{first_within, extends, ancestor, round_at, view_at}
use Rattle.table.specs.Committed.{Block, block_of, block_then, one_view, onward, commit, committed_count, entry_place, entries_from, committed_list}
use Rattle.table.specs.Laws.{Ancestor, Linked, Kept}
use Rattle.table.proofs.Walks.{up_most}
use Rattle.table.proofs.Orders.{found_map, extends_lower, ancestors}

module _ (t u : List Held) (place : ℕ) (same : (i : ℕ) → i < place → at t i ≡ at u i) where
  up_agrees : (i : ℕ) → i < place → up t i ≡ up u i
  up_agrees i lt = ap (λ (b : Held). cond (ltb b.parent i) b.parent 0) (same i lt)

  first_agrees : (test check : ℕ → Bool) → ((i : ℕ) → i < place → test i ≡ check i) → (n i : ℕ) → i < place → first_within n t test i ≡ first_within n u check i
  first_agrees test check tests zero i lt = ap (λ b. cond b (Some i) None) (tests i lt)
  first_agrees test check tests (suc n) i lt =
      let on = first_agrees test check tests n (up t i) (omega (arith, up_most t i)) ∙ ap (first_within n u check) (up_agrees i lt) in
      ap (λ b. cond b (Some i) (first_within n t test (up t i))) (tests i lt) ∙ ap (λ o. cond (check i) (Some i) o) on

  pub extends_agrees : (a b : ℕ) → a < place → extends t a b ≡ extends u a b
  extends_agrees a b lt = ap is_some (first_agrees (λ i. eqb i b) (λ i. eqb i b) (λ i _. refl) a a lt)

  pub ancestor_agrees : (a round : ℕ) → a < place → ancestor t a round ≡ ancestor u a round
  ancestor_agrees a round lt =
      first_agrees (λ i. eqb (round_at t i) round) (λ i. eqb (round_at u i) round) (λ i l. ap (λ (b : Held). eqb b.head.round.0 round) (same i l)) a a lt

  pub lookup_from_agrees : (id : List ℕ) (n i : ℕ) → i + n ≤ place → lookup_from n t i id ≡ lookup_from n u i id
  lookup_from_agrees id zero i le = refl
  lookup_from_agrees id (suc n) i le =
      ap (λ (b : Held). cond (bytes_eq b.id id) (Some i) (lookup_from n t (i + 1) id)) (same i (omega arith))
      ∙ ap (λ o. cond (bytes_eq (at u i).id id) (Some i) o) (lookup_from_agrees id n (i + 1) (omega arith))

  pub commit_agrees : (last i : ℕ) → last < place → i < place → commit t last i ≡ commit u last i
  commit_agrees last i ll li =
      let p : up t i < place = omega (arith, up_most t i) in
      let g : up t (up t i) < place = omega (arith, up_most t (up t i)) in
      let ep = up_agrees i li in
      let eg : up t (up t i) ≡ up u (up u i) = up_agrees (up t i) p ∙ ap (up u) ep in
      let view : (j k : ℕ) → j < place → j ≡ k → view_at t j ≡ view_at u k = λ j k l e. ap (λ (b : Held). b.head.view.0) (same j l) ∙ ap (view_at u) e in
      let vi = view i i li refl in
      let vp = view (up t i) (up u i) p ep in
      let vg = view (up t (up t i)) (up u (up u i)) g eg in
      let one : one_view t i ≡ one_view u i =
      ap (λ v. eqb v (view_at t (up t i)) && eqb v (view_at t (up t (up t i)))) vi
      ∙ (ap (λ v. eqb (view_at u i) v && eqb (view_at u i) (view_at t (up t (up t i)))) vp
      ∙ ap (λ v. eqb (view_at u i) (view_at u (up u i)) && eqb (view_at u i) v) vg)
      in
      let there : onward t last (up t (up t i)) ≡ onward u last (up u (up u i)) =
      ap (λ b. cond b (Some (up t (up t i))) (cond (extends t last (up t (up t i))) (Some last) None)) (extends_agrees (up t (up t i)) last g)
      ∙ (ap (λ b. cond (extends u (up t (up t i)) last) (Some (up t (up t i))) (cond b (Some last) None)) (extends_agrees last (up t (up t i)) ll)
      ∙ ap (onward u last) eg)
      in
      ap (λ b. cond b (onward t last (up t (up t i))) (Some last)) one ∙ ap (λ o. cond (one_view u i) o (Some last)) there

  count_agrees : (last : ℕ) → last < place → committed_count t last ≡ committed_count u last
  count_agrees last lt = ap (λ (b : Held). b.head.round.0) (same last lt)

  pub entry_agrees : (last k : ℕ) → last < place → entry_place t last k ≡ entry_place u last k
  entry_agrees last k lt =
      ap (λ n. cond (eqb k 0 || ltb n k) None (ancestor t last k)) (count_agrees last lt)
      ∙ ap (λ o. cond (eqb k 0 || ltb (committed_count u last) k) None o) (ancestor_agrees last k lt)

  then_agrees : (o : Option ℕ) (rest : List Block) → IfSome o (λ i. i < place) → block_then t o rest ≡ block_then u o rest
  then_agrees None rest low = refl
  then_agrees (Some i) rest low = ap (λ (b : Held). block_of b ∷ rest) (same i low)

  entry_low : (last k : ℕ) → last < place → IfSome (entry_place t last k) (λ i. i < place)
  entry_low last k lt =
      cond_both (eqb k 0 || ltb (committed_count t last) k) None (ancestor t last k) (λ o. IfSome o (λ i. i < place)) (λ _. tt)
      (λ _. found_map (Ancestor t last k) (λ i. i < place) (ancestor t last k) (λ i h. omega (arith, extends_lower t last i h.extended)) (ancestors t last k).right)

  entries_agree : (last : ℕ) → last < place → (n k : ℕ) → entries_from n t last k ≡ entries_from n u last k
  entries_agree last lt zero k = refl
  entries_agree last lt (suc n) k =
      then_agrees (entry_place t last k) (entries_from n t last (k + 1)) (entry_low last k lt)
      ∙ (ap (λ o. block_then u o (entries_from n t last (k + 1))) (entry_agrees last k lt)
      ∙ ap (block_then u (entry_place u last k)) (entries_agree last lt n (k + 1)))

  pub list_agrees : (last : ℕ) → last < place → committed_list t last ≡ committed_list u last
  list_agrees last lt =
      ap (λ n. entries_from n t last 1) (count_agrees last lt) ∙ entries_agree last lt (committed_count u last) 1

  pub linked_agrees : (a : ℕ) → a < place → Linked u a → Linked t a
  linked_agrees a lt linked = record { genesis = count_agrees 0 (omega arith) ∙ linked.genesis; rounds = on }
    where
      on : (i : ℕ) → 0 < i → extends t a i ≡ true → round_at t i ≡ round_at t (up t i) + 1
      on i pos h =
          let low : i < place = omega (arith, extends_lower t a i h) in
          let here = count_agrees i low in
          let there = count_agrees (up t i) (omega (arith, up_most t i)) ∙ ap (round_at u) (up_agrees i low) in
          let r = linked.rounds i pos (sym (extends_agrees a i lt) ∙ h) in
          omega arith

  pub kept_where : length t ≡ length u → Kept u t place
  kept_where long = record {
    blocks = same;
    lookups = λ held id le.
        ap (λ n. lookup_from (min held n) t 0 id) long ∙ lookup_from_agrees id (min held (length u)) 0 (omega arith);
    extensions = extends_agrees;
    ancestors = ancestor_agrees;
    commits = commit_agrees;
    entries = entry_agrees;
    lists = list_agrees;
    links = linked_agrees;
  }

-- a block is put into the place
pub kept_set : (t : List Held) (place : ℕ) (block : Held) → Kept t (set t place block) place
kept_set t place block = kept_where (set t place block) t place (λ i lt. get_or-set_other t place i block genesis (omega arith)) (length-set t place block)
