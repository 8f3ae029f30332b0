-- A fallback certificate of this view leaves the chain as it was, and an unendorsed one is refused.
use Rattle.std.proofs.Common.{◌≡◌, ℕ, true, not, List, Some, None, Option, sym, refl, ap, ◌∙◌, subst, arith}
use Rattle.std.proofs.lemmas.Bool.Decides.{nat_tests}
use Rattle.std.proofs.lemmas.Bool.{and_parts, both_ways, cond_both, or_right}
use Rattle.attest.specs.declared.attestor.Attestor.{Ghosts}
use Rattle.coin.specs.declared.Coin.{Ghosts as CoinGhosts}
use Rattle.digest.specs.Digest.{digest}
use Rattle.blocks.specs.declared.statement.Statement.{Statement}
use Rattle.blocks.specs.Heads.{said}
use Rattle.table.specs.declared.held.Held.{Held}
use Rattle.wire.specs.declared.form.Form.{Form}
use Rattle.wire.specs.Messages.{Text, proposal, vote, timeout, timeout_certificate, certificate, share, coin_certificate, read_message}
use Rattle.member.specs.declared.state.Member.{Member}
use Rattle.member.specs.declared.types.Refusal.{Refusal}
use Rattle.member.specs.declared.types.Refusal.TheVariants.{Sizes}
use Rattle.member.specs.Deliver.{of_fallback, rules_for, take_up, deliver_read}
use Rattle.member.specs.Rules.{first_broken, settled}
use Rattle.member.specs.See.{is_fallback, unendorsed}
use Rattle.member.specs.Sizes.{sized, lengths_of}
use Rattle.member.specs.States.{Lent, Left}
use Rattle.laws.specs.Calls.{Call, timer, propose, deliver, after}
use Rattle.laws.specs.Official.{Official, regular, endorsed, of_winner, ChainLeft, as_before, seen, carried, carried_in, carried_by, RefusedBy}
use Rattle.laws.proofs.Officials.{unendorsed_past}
use Rattle.laws.proofs.Rules.{Broken, here, later, First, first}

never_some : {A : Type 0} (s : A) → None ≡ Some s → ⊥
never_some s e = cc

same_some : {A : Type 0} (o : Option A) (s t : A) → o ≡ Some s → o ≡ Some t → s ≡ t
same_some o s t p q = cc

-- no official certificate is a fallback certificate of this view that the message carries
not_official : (m m' : Member) (carries : Option Statement) (s t : Statement) → carries ≡ Some s → of_fallback m s ≡ true → Official m m' carries t → ⊥
not_official m m' carries s t c f (regular d k) =
    both_ways (is_fallback s.kind) (ap is_fallback (ap (λ x. x.kind) (same_some carries s t c d) ∙ k)) (and_parts (is_fallback s.kind) _ f).0
not_official m m' carries s t c f (endorsed d k low w) = let same = ap (λ x. x.view.0) (same_some carries s t c d) in grind (arith, nat_tests)
not_official m m' carries s t c f (of_winner w d k n) = never_some s (sym d ∙ c)

pub same_chain : (m : Member) (table : List Held) (carries : Option Statement) (m' : Member) (s : Statement) → carries ≡ Some s → of_fallback m s ≡ true →
    ChainLeft m table carries m' → m'.chain ≡ m.chain
same_chain m table carries m' s c f (as_before e) = e
same_chain m table carries m' s c f (seen t o e) = absurd (not_official m m' carries s t c f o)

refused_first : {S : Type 0} (n : ℕ) (m : Member) (l : Lent S) (done : Left S) (o : Option Refusal) → First n o → RefusedBy n (settled o m l done)
refused_first n m l done o f =
    subst (λ x. RefusedBy n (settled x m l done)) (sym f.is) (record { refusal = f.refusal; result = refl; numbered = f.numbered })

module _ {S C : Type 0} (g : Ghosts S) (k : CoinGhosts C) (coin : C) (form : Form) (m : Member) (l : Lent S) (s : Statement) (un : unendorsed m s ≡ true) where
  abbrev Unendorsed : Statement → Type 0
  Unendorsed t = unendorsed m t ≡ true

  broken : (sheet : List ℕ) (t : Text) → carried t ≡ Some s → Broken 8 (rules_for g k coin form m l sheet t)
  broken sheet (proposal b c) e =
      later (omega arith) (later (omega arith) (later (omega arith) (later (omega arith)
      (here (or_right (unendorsed m (said b.head (digest b.bytes))) (unendorsed m c.statement) (subst Unendorsed (same_some _ s c.statement e refl) un)) (omega arith)))))
  broken sheet (vote v) e = later (omega arith) (here (unendorsed_past m v.statement (subst Unendorsed (same_some _ s v.statement e refl) un)) (omega arith))
  broken sheet (timeout t) e =
      later (omega arith) (later (omega arith) (later (omega arith) (later (omega arith) (later (omega arith)
      (here (subst Unendorsed (same_some _ s t.certificate.statement e refl) un) (omega arith))))))
  broken sheet (timeout_certificate t) e = absurd (never_some s e)
  broken sheet (certificate c) e =
      later (omega arith) (later (omega arith) (later (omega arith) (later (omega arith)
      (here (subst Unendorsed (same_some _ s c.statement e refl) un) (omega arith)))))
  broken sheet (share t) e = absurd (never_some s e)
  broken sheet (coin_certificate t) e = absurd (never_some s e)

  read_refused : (sheet message : List ℕ) (o : Option Text) → carried_in o ≡ Some s → RefusedBy 8 (deliver_read g k coin form m l sheet message o)
  read_refused sheet message None e = absurd (never_some s e)
  read_refused sheet message (Some t) e =
      refused_first 8 m l (take_up g k coin form m l sheet message t) (first_broken (rules_for g k coin form m l sheet t))
      (first 8 (rules_for g k coin form m l sheet t) (broken sheet t e))

  pub unendorsed_refused : (call : Call) → carried_by form call ≡ Some s → RefusedBy 8 (after g k coin form m l call)
  unendorsed_refused timer e = absurd (never_some s e)
  unendorsed_refused (propose payload) e = absurd (never_some s e)
  unendorsed_refused (deliver sheet message) e =
      cond_both (not (sized m.site (lengths_of l))) (Some Sizes) None
      (λ o. RefusedBy 8 (settled o m l (deliver_read g k coin form m l sheet message (read_message form message))))
      (λ b. record { refusal = Sizes; result = refl; numbered = omega arith })
      (λ b. read_refused sheet message (read_message form message) e)
