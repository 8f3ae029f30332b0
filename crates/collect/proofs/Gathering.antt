-- The kept shares, written one after the other.
use Rattle.std.proofs.Common.{◌≡◌, ℕ, ◌+◌, ◌<◌, ◌≤◌, List, [], ◌∷◌, ◌++◌, map, length, take, drop, set, sym, ap, ◌∙◌, subst, arith}
use Rattle.std.proofs.lemmas.List.{append_assoc, append-nil, length-append, length-map, length-set, length-take-le, take_more_set, take-append-drop, drop-set-lt, drop-drop}
use Rattle.std.specs.List.{All}
use Rattle.std.proofs.lemmas.List.Elements.{All-head, All-tail}
use Rattle.coin.specs.declared.shares.Share.{Share}
use Rattle.collect.specs.declared.items.KeptShare.{KeptShare}
use Rattle.collect.specs.Build.{places_most, share_at}

-- `count` shares of the walk `all` are written, those of the walk `left` are still to come
pub record Written (old out : List Share) (count : ℕ) (all left : List (ℕ × KeptShare)) : Type 0 where
  pub numbers : All (λ met. met.0 < places_most) left
  pub within : count ≤ length out
  pub front : take count out ++ map share_at left ≡ map share_at all
  pub back : drop count out ≡ drop count old

module _ {old out : List Share} {count : ℕ} {all left : List (ℕ × KeptShare)} (w : Written old out count all left) where
  lengths : count + length left ≡ length all
  lengths =
      let e = ap length w.front in
      let sum = length-append (take count out) (map share_at left) in
      let long = length-take-le count out w.within in
      omega (arith, length-map left share_at, length-map all share_at)

  pub has_place : (k : ℕ × KeptShare) (rest : List (ℕ × KeptShare)) → left ≡ k ∷ rest → length all ≤ length out → count < length out
  has_place k rest e room = omega (arith, lengths, ap length e)

  numbers_on : (k : ℕ × KeptShare) (rest : List (ℕ × KeptShare)) → left ≡ k ∷ rest → All (λ (met : ℕ × KeptShare). met.0 < places_most) (k ∷ rest)
  numbers_on k rest e = subst (All (λ (met : ℕ × KeptShare). met.0 < places_most)) e w.numbers

  pub has_number : (k : ℕ × KeptShare) (rest : List (ℕ × KeptShare)) → left ≡ k ∷ rest → k.0 < places_most
  has_number k rest e = All-head (λ (met : ℕ × KeptShare). met.0 < places_most) k rest (numbers_on k rest e)

  -- the share of the walk's first item is written at `count`
  pub one_more : (k : ℕ × KeptShare) (rest : List (ℕ × KeptShare)) (s : Share) → left ≡ k ∷ rest → s ≡ share_at k → count < length out → (at next : ℕ) → at ≡ count → next ≡ count + 1 → Written old (set out at s) next all rest
  one_more k rest s e is lt at next here more =
      subst
      (λ n. Written old (set out n s) next all rest)
      (sym here)
      (subst
      (λ n. Written old (set out count s) n all rest)
      (sym more)
      (record {
        numbers = All-tail (λ (met : ℕ × KeptShare). met.0 < places_most) k rest (numbers_on k rest e);
        within = omega (arith, length-set out count s);
        front = ap (λ (t : List Share). t ++ map share_at rest) (take_more_set out count s lt) ∙ (append_assoc (take count out) (s ∷ []) (map share_at rest) ∙ (ap (λ (t : Share). take count out ++ (t ∷ map share_at rest)) is ∙ (ap (λ (v : List (ℕ × KeptShare)). take count out ++ map share_at v) (sym e) ∙ w.front)));
        back = drop-set-lt (count + 1) out count s (omega arith) ∙ (sym (drop-drop 1 count out) ∙ (ap (drop 1) w.back ∙ drop-drop 1 count old));
      }))

  pub at_end : left ≡ [] → out ≡ map share_at all ++ drop (length (map share_at all)) old
  at_end e =
      let n : count ≡ length (map share_at all) = omega (arith, lengths, ap length e, length-map all share_at) in
      let front : take count out ≡ map share_at all = sym (append-nil (take count out)) ∙ (ap (λ (v : List (ℕ × KeptShare)). take count out ++ map share_at v) (sym e) ∙ w.front) in
      sym (take-append-drop count out) ∙ (ap (λ (t : List Share). t ++ drop count out) front ∙ (ap (λ (d : List Share). map share_at all ++ d) w.back ∙ ap (λ m. map share_at all ++ drop m old) n))
