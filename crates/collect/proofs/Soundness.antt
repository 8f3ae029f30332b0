-- The entries of a walk are those of a certificate, and are read back from their bytes.
use Rattle.std.proofs.Common.{◌≡◌, ℕ, ◌+◌, ◌<◌, ◌≤◌, Bool, true, ltb, List, [], ◌∷◌, ◌++◌, map, length, get_or, take, drop, set, replicate, Some, None, Option, refl, ap, ◌∙◌, subst, ⊎_elim, arith}
use Rattle.std.specs.List.{flat_map, AllByRecursion}
use Rattle.std.proofs.lemmas.List.{length-set, length-take-le, get_or_past, take_at, drop_at}
use Rattle.std.proofs.lemmas.Bool.{and_from, lt-ltb, le-leb, cases_lt, cond_both, cond-true}
use Rattle.attest.specs.Limits.{tag_room}
use Rattle.blocks.specs.Layout.{fits}
use Rattle.digest.specs.Bytes.{number16}
use Rattle.tally.specs.Laws.{Kept, ReachedByThatMany, WalksAll, Rising as PlacesRise}
use Rattle.tally.specs.Puts.{takes, put_to}
use Rattle.tally.specs.Walk.{kept_alike}
use Rattle.wire.specs.Entries.{Entry, entries_of, entry_formed, entries_formed, within}
use Rattle.wire.specs.Layouts.{entry_bytes}
use Rattle.collect.specs.declared.items.KeptShare.{KeptShare}
use Rattle.collect.specs.Items.{kept, share_above, share_alike, share_tail, entries_from}
use Rattle.collect.specs.Build.{share_at}
use Rattle.collect.specs.Laws.{Rising, ReachedIsSound, SoundIsRead, Tails, share_in, SameShares}
use Rattle.collect.proofs.Entries.{as_many}

-- a tag that has room is kept whole
kept_back : (tag : List ℕ) → length tag ≤ tag_room → take (length tag) (kept tag) ≡ tag
kept_back tag le =
    let here : fits (replicate tag_room 0) 0 tag ≡ true = le-leb _ _ (omega arith) in
    ap (take (length tag)) (cond-true _ _ _ here) ∙ take_at tag _ (length tag) refl

module _ {T : Type 0} where
  held_within : (places : List (Option T)) (k : ℕ) (y : T) → Kept places k y → k < length places
  held_within places k y held =
      ⊎_elim
      (λ lt. lt)
      (λ past. absurd (let e = get_or_past places k None past in let z : ◌≡◌ {A = ℕ} 0 1 = cc in omega arith))
      (cases_lt k (length places))

  as_long : (above : T → T → Bool) (places : List (Option T)) (i : ℕ) (x : T) → length (put_to above places i x) ≡ length places
  as_long above places i x =
      let long : (after : List (Option T)) → Type 0 = λ after. length after ≡ length places in
      cond_both
      (ltb i (length places))
      _
      places
      long
      (λ _. cond_both (takes above (get_or places i None) x) (set places i (Some x)) places long (λ _. length-set places i (Some x)) (λ _. refl))
      (λ _. refl)

  module _ (tail : T → List ℕ) (alike : T → T → Bool) (x : T) (places : List (Option T)) where
    -- what a walk says of each item that it meets
    abbrev Met : ℕ × T → Type 0
    Met met = Kept places met.0 met.1 × (alike met.1 x ≡ true)

    entries_rise : (low : ℕ) (walk : List (ℕ × T)) → PlacesRise low walk → AllByRecursion Met walk → Rising (length places) low (entries_from tail walk)
    entries_rise low [] rise all = tt
    entries_rise low (k ∷ walk) rise all =
        let in' = held_within places k.0 k.1 all.0.0 in
        (omega (arith, rise.0), omega arith, entries_rise (k.0 + 1) walk rise.1 all.1)

    entries_wide : (wide : ℕ) (walk : List (ℕ × T)) → ((k : ℕ) (y : T) → Kept places k y → length (tail y) ≡ wide) → AllByRecursion Met walk → AllByRecursion (λ e. length e.tail ≡ wide) (entries_from tail walk)
    entries_wide wide [] each all = tt
    entries_wide wide (k ∷ walk) each all = (each k.0 k.1 all.0.0, entries_wide wide walk each all.1)

  pub reached_is_sound_lem : (above alike : T → T → Bool) → ReachedByThatMany above alike → ReachedIsSound above alike
  reached_is_sound_lem above alike law tail wide places i x threshold reached each =
      let after = put_to above places i x in
      let walk = kept_alike alike x after 0 in
      let met = law places i x threshold reached in
      record {
        many = as_many tail walk ∙ met.1;
        rising = subst (λ n. Rising n 0 (entries_from tail walk)) (as_long above places i x) (entries_rise tail alike x after 0 walk met.0.rising met.0.kept);
        tails = entries_wide tail alike x after wide walk each met.0.kept;
      }

-- an entry at the start of bytes
module _ (wide : ℕ) (e : Entry) (rest : List ℕ) (long : length e.tail ≡ wide) where
  rest_of : drop (1 + wide) (entry_bytes e ++ rest) ≡ rest
  rest_of = drop_at (entry_bytes e) rest (1 + wide) (omega arith)

  entry_of : take (1 + wide) (entry_bytes e ++ rest) ≡ entry_bytes e
  entry_of = take_at (entry_bytes e) rest (1 + wide) (omega arith)

read_back : (wide : ℕ) (es : List Entry) → AllByRecursion (λ e. length e.tail ≡ wide) es → entries_of wide (length es) (flat_map entry_bytes es) ≡ es
read_back wide [] all = refl
read_back wide (e ∷ es) all =
    let rest = flat_map entry_bytes es in
    ap (λ (t : List ℕ). record { signer = e.signer; tail = t } ∷ entries_of wide (length es) (drop (1 + wide) (entry_bytes e ++ rest))) (take_at e.tail rest wide all.0)
    ∙ (ap (λ (bs : List ℕ). e ∷ entries_of wide (length es) bs) (rest_of wide e rest all.0) ∙ ap (λ (xs : List Entry). e ∷ xs) (read_back wide es all.1))

formed : (n wide : ℕ) (limit : Option ℕ) (low : ℕ) (es : List Entry) → Rising n low es → AllByRecursion (λ e. length e.tail ≡ wide) es → AllByRecursion (λ e. within limit (number16 e.tail 0) ≡ true) es → entries_formed n limit wide (length es) low (flat_map entry_bytes es) ≡ true
formed n wide limit low [] rise all values = refl
formed n wide limit low (e ∷ es) rise all values =
    let rest = flat_map entry_bytes es in
    let one : entry_formed n limit low (entry_bytes e) ≡ true = and_from _ _ (lt-ltb low e.signer rise.0) (and_from _ _ (le-leb e.signer n rise.1) values.0) in
    and_from
    _
    _
    (ap (entry_formed n limit low) (entry_of wide e rest all.0) ∙ one)
    (ap (entries_formed n limit wide (length es) e.signer) (rest_of wide e rest all.0) ∙ formed n wide limit e.signer es rise.2 all.1 values.1)

pub sound_is_read_lem : SoundIsRead
sound_is_read_lem n threshold wide limit es s values =
    subst
    (λ m. (entries_of wide m (flat_map entry_bytes es) ≡ es) × (entries_formed n limit wide m 0 (flat_map entry_bytes es) ≡ true))
    s.many
    (read_back wide es s.tails, formed n wide limit 0 es s.rising s.tails values)

pub tails : Tails
tails = record {
  tags = kept_back;
  votes = λ width x le. length-take-le width x.tag le;
  timeouts = λ width x le. length-take-le width x.tag le;
  shares = λ width x le. omega (arith, length-take-le width x.tag le);
}

same_walk : (width : ℕ) (walk : List (ℕ × KeptShare)) → AllByRecursion (λ met. met.1.value < 65536) walk → map share_in (entries_from (share_tail width) walk) ≡ map share_at walk
same_walk width [] all = refl
same_walk width (k ∷ walk) all =
    let value : number16 (share_tail width k.1) 0 ≡ k.1.value = omega (arith, all.0) in
    ap (λ (v : ℕ). record { member = k.0 + 1; value = v } ∷ map share_in (entries_from (share_tail width) walk)) value
    ∙ ap (λ xs. share_at k ∷ xs) (same_walk width walk all.1)

small_values : (x : KeptShare) (places : List (Option KeptShare)) (walk : List (ℕ × KeptShare)) → ((k : ℕ) (y : KeptShare) → Kept places k y → y.value < 65536) → AllByRecursion (λ met. Kept places met.0 met.1 × (share_alike met.1 x ≡ true)) walk → AllByRecursion (λ met. met.1.value < 65536) walk
small_values x places [] each all = tt
small_values x places (k ∷ walk) each all = (each k.0 k.1 all.0.0, small_values x places walk each all.1)

pub same_shares : WalksAll share_above share_alike → SameShares
same_shares walks width x places each =
    let walk = kept_alike share_alike x places 0 in
    same_walk width walk (small_values x places walk each (walks places 0 x).kept)
