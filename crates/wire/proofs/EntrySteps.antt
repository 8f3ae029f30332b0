-- One entry of a certificate after the other.
use Rattle.std.proofs.Common.{◌≡◌, ℕ, zero, suc, ◌+◌, ◌-◌, ◌*◌, ◌<◌, ◌≤◌, true, false, ◌&&◌, List, ◌++◌, length, get_or, Option, sym, ap, ap₂, ◌∙◌, subst₂, suc-mul, arith}
use Rattle.std.proofs.lemmas.List.{length-append, take_at, drop_at, get_or_append_left}
use Rattle.std.proofs.lemmas.Bool.{and_left, and_right}
use Rattle.wire.specs.Entries.{entry_formed, entries_formed, are_entries}

whole : (m w : ℕ) → 1 + w ≤ m * (1 + w) → 0 < m
whole zero w h = absurd (omega arith)
whole (suc m) w h = omega arith

module _ (n : ℕ) (limit : Option ℕ) (w count : ℕ) (bs : List ℕ) where
  -- the rest is what is left after k entries, and its form decides
  pub record Left (k last : ℕ) (rest : List ℕ) : Type 0 where
    pub long : length rest ≡ (count - k) * (1 + w)
    pub decides : entries_formed n limit w count 0 bs ≡ entries_formed n limit w (count - k) last rest

  -- one entry more
  step : (k last : ℕ) (rest entry back : List ℕ) → Left k last rest → rest ≡ entry ++ back → length entry ≡ 1 + w
      → (entries_formed n limit w count 0 bs ≡ (entry_formed n limit last entry && entries_formed n limit w (count - (k + 1)) (get_or entry 0 0) back))
      × (length back ≡ (count - (k + 1)) * (1 + w))
  step k last rest entry back l is long =
      let both = ap length is ∙ length-append entry back in
      let some : 0 < count - k = whole (count - k) w (omega (arith, l.long)) in
      let more : count - k ≡ suc (count - (k + 1)) = omega arith in
      let split = ap (λ (m : ℕ). m * (1 + w)) more ∙ suc-mul (count - (k + 1)) (1 + w) in
      let first : get_or (entry ++ back) 0 0 ≡ get_or entry 0 0 = get_or_append_left entry back 0 0 (omega arith) in (
        l.decides ∙ ap₂ (λ j q. entries_formed n limit w j last q) more is
            ∙ ap₂ (λ e q. entry_formed n limit last e && entries_formed n limit w (count - (k + 1)) (get_or (entry ++ back) 0 0) q) (take_at entry back (1 + w) long) (drop_at entry back (1 + w) long)
            ∙ ap (λ s. entry_formed n limit last entry && entries_formed n limit w (count - (k + 1)) s back) first,
        omega arith,
      )

  -- an entry without the form
  pub stops : (k last : ℕ) (rest entry back : List ℕ) → Left k last rest → rest ≡ entry ++ back → length entry ≡ 1 + w → entry_formed n limit last entry ≡ false → false ≡ are_entries n limit w count bs
  stops k last rest entry back l is long fails = sym (and_right _ _ ((step k last rest entry back l is long).0 ∙ and_left _ _ fails))

  -- an entry that has it
  pub goes_on : (k k' last signer : ℕ) (rest entry back : List ℕ) → Left k last rest → rest ≡ entry ++ back → length entry ≡ 1 + w → entry_formed n limit last entry ≡ true → k' ≡ k + 1 → signer ≡ get_or entry 0 0 → Left k' signer back
  goes_on k k' last signer rest entry back l is long holds one whose =
      let s = step k last rest entry back l is long in
      let e : Left (k + 1) (get_or entry 0 0) back = record { long = s.1; decides = s.0 ∙ ap (λ b. b && entries_formed n limit w (count - (k + 1)) (get_or entry 0 0) back) holds } in
      subst₂ (λ j l. Left j l back) (sym one) (sym whose) e
