-- What each call comes to: refused, with nothing changed, or accepted, with the phase later, the chain moved by official certificates only, and
-- the attestor as due.
use Rattle.std.proofs.Common.{◌≡◌, ℕ, true, false, not, eqb, List, [], ◌∷◌, length, Some, None, Ok, Option, sym, refl, ap, ◌∙◌, subst, inl, inr, arith}
use Rattle.std.proofs.lemmas.Bool.{and_parts, cond_both, cond-true, not-false, or_parts, both_ways, cases_Bool, cond-false}
use Rattle.attest.specs.declared.attestor.Attestor.{Ghosts}
use Rattle.coin.specs.declared.Coin.{Ghosts as CoinGhosts}
use Rattle.digest.specs.Digest.{digest}
use Rattle.blocks.specs.declared.statement.Statement.{Statement}
use Rattle.blocks.specs.Heads.{said}
use Rattle.blocks.specs.Statements.{rank_of}
use Rattle.wire.specs.declared.form.Form.{Form}
use Rattle.wire.specs.Certificates.{CertificatePart}
use Rattle.wire.specs.Layouts.{vote_words, timeout_words}
use Rattle.wire.specs.Messages.{BlockPart, VoteText, TimeoutText, GatheredText, ShareText, Text, proposal, vote, timeout, timeout_certificate, certificate, share, coin_certificate, read_message}
use Rattle.member.specs.declared.state.Member.{Member}
use Rattle.member.specs.declared.state.Phase.{Phase}
use Rattle.member.specs.declared.types.Answer.{Answer}
use Rattle.member.specs.declared.types.Refusal.{Refusal}
use Rattle.member.specs.declared.types.Refusal.TheVariants.{Sizes, Form as BadForm, Unsigned}
use Rattle.member.specs.Accepting.{coin_entries}
use Rattle.member.specs.Deliver.{proposal_rules, timeout_rules, certificate_rules, sees_under, under_chain, under_rows, votes_on, hold_table, hold_count, take_proposal, count_vote, reaches, take_vote, count_timeout, take_timeout, take_timeout_certificate, of_fallback, count_finished, take_certificate, exit_commits, winner_by, kept_shares, count_share, take_share, take_coin_certificate, rules_for, take_up, deliver_read}
use Rattle.member.specs.Exit.{place_of, exit_chain, exit_to, exit}
use Rattle.member.specs.Propose.{less_proposed, in_turn, planned, propose_rules, proposes}
use Rattle.member.specs.Rules.{rule, first_broken}
use Rattle.member.specs.See.{is_fallback, unendorsed, see, newly}
use Rattle.member.specs.Sizes.{sized, lengths_of}
use Rattle.member.specs.States.{Lent, Left, refused, row_of}
use Rattle.member.specs.Timer.{timer_rules}
use Rattle.laws.specs.Calls.{Call, timer, propose, deliver, after}
use Rattle.laws.specs.Official.{Official, regular, of_winner, ChainLeft, as_before, seen, carried, carried_in, carried_by}
use Rattle.laws.specs.Signing.{Signs}
use Rattle.laws.proofs.Officials.{cases_kind, official, not_this_view, in_timeout, following, matching, under_block}
use Rattle.laws.proofs.Holds.{sized_table, table_left}
use Rattle.laws.proofs.Links.{TableLeft, unheld}
use Rattle.laws.proofs.Readings.{Tall, tall_fallback}
use Rattle.laws.proofs.Rises.{Later, later_self, vote_later, exit_later, PastKept, past_kept, exit_kept, above_not_proposed_below}
use Rattle.laws.proofs.Rules.{NoneBroken, settles}

-- an accepted call that newly committed this many blocks
pub record Accepted {S : Type 0} (m : Member) (l : Lent S) (carries : Option Statement) (committed : ℕ) (m' : Member) (l' : Lent S) : Type 0 where
  pub phases : Later m.phase m'.phase
  pub chains : ChainLeft m l.table carries m'
  pub tables : TableLeft m l.table m' l'.table
  pub pasts : PastKept m m'
  pub counts : committed ≡ newly l.table m.chain m'.chain

pub data Outcome {S : Type 0} (m : Member) (l : Lent S) (Signed : S → Type 0) (carries : Option Statement) : Left S → Type 0 where
  refuses : (e : Refusal) → Outcome m l Signed carries (refused m l e)
  accepts : (a : Answer) (m' : Member) (l' : Lent S) → Signed l'.attestor → Accepted m l carries a.committed m' l' →
      Outcome m l Signed carries (record { result = Ok a; member = m'; lent = l' })

module _ {S : Type 0} (m : Member) (l : Lent S) (carries : Option Statement) (m' : Member) (l' : Lent S) (table : l'.table ≡ l.table) (held : m'.held ≡ m.held)
    (past : PastKept m m') where
  -- the certificate of s was seen, and nothing held
  saw : (s : Statement) → Official m m' carries s → m'.chain ≡ see m.chain l.table s (place_of l.table m.held s) → Later m.phase m'.phase →
      Accepted m l carries (newly l.table m.chain (see m.chain l.table s (place_of l.table m.held s))) m' l'
  saw s o c p = record { phases = p; chains = seen s o c; tables = unheld table held; pasts = past; counts = ap (newly l.table m.chain) (sym c) }

  -- the chain is as it was
  in_phase : m'.chain ≡ m.chain → Later m.phase m'.phase → Accepted m l carries 0 m' l'
  in_phase c p = record { phases = p; chains = as_before c; tables = unheld table held; pasts = past; counts = none ∙ ap (newly l.table m.chain) (sym c) }
    where
      none : 0 ≡ newly l.table m.chain m.chain
      none = omega arith

  -- and so is the phase
  unmoved : m'.chain ≡ m.chain → m'.phase ≡ m.phase → Accepted m l carries 0 m' l'
  unmoved c p = in_phase c (subst (Later m.phase) (sym p) (later_self m.phase))

same_times : (p p' : Phase) → p'.view ≡ p.view → p'.voted ≡ p.voted → Later p p'
same_times p p' v w = let e = ap (λ x. x.0) v in let f = ap (λ x. x.0) w in record { views = omega arith; voted = omega arith }

module _ {S : Type 0} (m : Member) (l : Lent S) (Signed : S → Type 0) (same : Signed l.attestor) where
  abbrev Ends : Option Statement → Left S → Type 0
  Ends carries = Outcome m l Signed carries

  proposal_outcome : (g : Ghosts S) (form : Form) (b : BlockPart) (c : CertificatePart) → sized m.site (lengths_of l) ≡ true → NoneBroken (proposal_rules g form m l b c) → Tall b.head →
      (votes_on m l.table b c ≡ true → Signed (g.signed l.attestor (vote_words (said b.head (digest b.bytes))))) →
      Ends (Some c.statement) (take_proposal g form m l b c)
  proposal_outcome g form b c sizes kept tall signed =
      cond_both (votes_on m l.table b c) _ _ (Ends (Some c.statement))
      (λ due.
      cond_both (g.signs l.attestor (vote_words (said b.head (digest b.bytes)))) _ _ (Ends (Some c.statement))
      (λ willing. accepts _ _ _ (signed due) (record {
        phases = vote_later m.phase (under_chain m l.table b.head c.statement) (under_rows m b.head c.statement) b.head (rank_of c.statement) due;
        chains = moved _ refl;
        tables = tables _ refl;
        pasts = past_kept m _ refl refl;
        counts = refl;
      }))
      (λ unwilling. refuses Unsigned))
      (λ undue. accepts _ _ _ same (record { phases = later_self m.phase; chains = moved _ refl; tables = tables _ refl; pasts = past_kept m _ refl refl; counts = refl }))
    where
      moved : (m' : Member) → m'.chain ≡ under_chain m l.table b.head c.statement → ChainLeft m l.table (Some c.statement) m'
      moved m' is = elim (cases_Bool (sees_under m b.head)) [
        | inl sees ↦
            seen c.statement
            (official m c.statement m' (under_block m m.site.members l.table b.head c.statement kept.0 kept.1.0 tall sees)
            (or_parts (unendorsed m (said b.head (digest b.bytes))) _ kept.1.1.1.1.0).1)
            (is ∙ cond-true (sees_under m b.head) _ m.chain sees)
        | inr records ↦ as_before (is ∙ cond-false (sees_under m b.head) _ m.chain records)
      ]

      tables : (m' : Member) → m'.held ≡ hold_count m l.table b → TableLeft m l.table m' (hold_table m l.table b c.statement)
      tables =
          table_left m l.table b c.statement (sized_table m.site (lengths_of l) sizes) kept.1.1.0
          (matching m m.site.members l.table b.head c.statement kept.0 kept.1.0)
          (following m m.site.members l.table b.head c.statement kept.0 kept.1.0) kept.1.1.1.1.1.1.0

  vote_outcome : (form : Form) (v : VoteText) → Ends (Some v.statement) (take_vote form m l v)
  vote_outcome form v =
      cond_both (reaches (count_vote m l.tallies v)) _ _ (Ends (Some v.statement))
      (λ e.
      cond_both (is_fallback v.statement.kind) _ _ (Ends (Some v.statement))
      (λ f.
      cond_both (eqb v.statement.height 3) _ _ (Ends (Some v.statement))
      (λ h. accepts _ _ _ same (unmoved m l _ _ _ refl refl (past_kept m _ refl refl) refl refl))
      (λ h. accepts _ _ _ same (unmoved m l _ _ _ refl refl (past_kept m _ refl refl) refl refl)))
      (λ f. accepts _ _ _ same (saw m l _ _ _ refl refl (past_kept m _ refl refl) v.statement (by_kind _ f) refl (later_self m.phase))))
      (λ e. accepts _ _ _ same (unmoved m l _ _ _ refl refl (past_kept m _ refl refl) refl refl))
    where
      by_kind : (m' : Member) → is_fallback v.statement.kind ≡ false → Official m m' (Some v.statement) v.statement
      by_kind m' no_fallback = elim (cases_kind v.statement.kind) [
        | inl r ↦ regular refl r
        | inr f ↦ absurd (both_ways (is_fallback v.statement.kind) no_fallback f.1)
      ]

  timeout_outcome : (g : Ghosts S) (form : Form) (t : TimeoutText) → NoneBroken (timeout_rules g form m l t) →
      Ends (Some t.certificate.statement) (take_timeout form m l t)
  timeout_outcome g form t kept =
      cond_both (reaches (count_timeout m l.tallies t)) _ _ (Ends (Some t.certificate.statement))
      (λ e. accepts _ _ _ same (saw m l _ _ _ refl refl (past_kept m _ refl refl) t.certificate.statement (allowed _) refl (same_times m.phase _ refl refl)))
      (λ e. accepts _ _ _ same (saw m l _ _ _ refl refl (past_kept m _ refl refl) t.certificate.statement (allowed _) refl (later_self m.phase)))
    where
      allowed : (m' : Member) → Official m m' (Some t.certificate.statement) t.certificate.statement
      allowed m' = official m t.certificate.statement m' (in_timeout m t.view t.certificate.statement _ kept.0 kept.1.1.0) kept.1.1.1.1.1.0

  timeout_certificate_outcome : (message : List ℕ) → Ends None (take_timeout_certificate m l message)
  timeout_certificate_outcome message = accepts _ _ _ same (in_phase m l _ _ _ refl refl (past_kept m _ refl refl) refl (same_times m.phase _ refl refl))

  certificate_outcome : (g : Ghosts S) (form : Form) (sheet : List ℕ) (c : CertificatePart) → NoneBroken (certificate_rules g form m l sheet c) →
      Ends (Some c.statement) (take_certificate form m l sheet c)
  certificate_outcome g form sheet c kept =
      cond_both (of_fallback m c.statement) _ _ (Ends (Some c.statement))
      (λ f.
      cond_both (eqb c.statement.height 3) _ _ (Ends (Some c.statement))
      (λ h.
      cond_both (reaches (count_finished m l.tallies c.statement)) _ _ (Ends (Some c.statement))
      (λ e. accepts _ _ _ same (unmoved m l _ _ _ refl refl (past_kept m _ refl refl) refl refl))
      (λ e. accepts _ _ _ same (unmoved m l _ _ _ refl refl (past_kept m _ refl refl) refl refl)))
      (λ h. accepts _ _ _ same (unmoved m l _ _ _ refl refl (past_kept m _ refl refl) refl refl)))
      (λ f. accepts _ _ _ same (saw m l _ _ _ refl refl (past_kept m _ refl refl) c.statement
      (official m c.statement _ (not_this_view m c.statement kept.0 f) kept.1.1.1.1.0) refl (later_self m.phase)))

  exited : (w : ℕ) (l' : Lent S) → l'.table ≡ l.table → Accepted m l None (exit_commits m l.table w) (exit m l.table w) l'
  exited w l' table = record {
    phases = exit_later m.phase (row_of m.rows w);
    chains = by_row (row_of m.rows w).certificate refl;
    tables = unheld table refl;
    pasts = exit_kept m _ w;
    counts = refl;
  }
    where
      by_row : (o : Option Statement) → (row_of m.rows w).certificate ≡ o →
          ChainLeft m l.table None (exit_to m (exit_chain m.chain l.table m.held o) w)
      by_row None e = as_before refl
      by_row (Some s) e = seen s (of_winner w refl e refl) refl

  share_outcome : {C : Type 0} (k : CoinGhosts C) (coin : C) (form : Form) (s : ShareText) → Ends None (take_share k coin form m l s)
  share_outcome k coin form s =
      cond_both (reaches (count_share m l.tallies s)) _ _ (Ends None)
      (λ e. accepts _ _ _ same (exited (winner_by k coin m (kept_shares form l.tallies s)) _ refl))
      (λ e. accepts _ _ _ same (unmoved m l _ _ _ refl refl (past_kept m _ refl refl) refl refl))

  coin_certificate_outcome : {C : Type 0} (k : CoinGhosts C) (coin : C) (form : Form) (t : GatheredText) (message : List ℕ) →
      Ends None (take_coin_certificate k coin form m l t message)
  coin_certificate_outcome k coin form t message = accepts _ _ _ same (exited (winner_by k coin m (coin_entries form t)) _ refl)

module _ {S C : Type 0} (g : Ghosts S) (k : CoinGhosts C) (coin : C) (form : Form) (m : Member) (l : Lent S) where
  abbrev SignedBy : Call → S → Type 0
  SignedBy call = Signs g form m l call

  delivered : (sheet message : List ℕ) (t : Text) → sized m.site (lengths_of l) ≡ true → read_message form message ≡ Some t →
      first_broken (rules_for g k coin form m l sheet t) ≡ None → NoneBroken (rules_for g k coin form m l sheet t) →
      Outcome m l (SignedBy (deliver sheet message)) (carried t) (take_up g k coin form m l sheet message t)
  delivered sheet message (proposal b c) sizes e first kept =
      proposal_outcome m l (SignedBy (deliver sheet message)) (inl refl) g form b c sizes kept (tall_fallback form message b c e)
      (λ due. inr (record { block = b; certificate = c; read = e; lawful = first; due = due; words = refl }))
  delivered sheet message (vote v) sizes e first kept = vote_outcome m l (SignedBy (deliver sheet message)) (inl refl) form v
  delivered sheet message (timeout t) sizes e first kept = timeout_outcome m l (SignedBy (deliver sheet message)) (inl refl) g form t kept
  delivered sheet message (timeout_certificate t) sizes e first kept = timeout_certificate_outcome m l (SignedBy (deliver sheet message)) (inl refl) message
  delivered sheet message (certificate c) sizes e first kept = certificate_outcome m l (SignedBy (deliver sheet message)) (inl refl) g form sheet c kept
  delivered sheet message (share s) sizes e first kept = share_outcome m l (SignedBy (deliver sheet message)) (inl refl) k coin form s
  delivered sheet message (coin_certificate t) sizes e first kept = coin_certificate_outcome m l (SignedBy (deliver sheet message)) (inl refl) k coin form t message

  read : (sheet message : List ℕ) (o : Option Text) → sized m.site (lengths_of l) ≡ true → read_message form message ≡ o →
      Outcome m l (SignedBy (deliver sheet message)) (carried_in o) (deliver_read g k coin form m l sheet message o)
  read sheet message None sizes e = refuses BadForm
  read sheet message (Some t) sizes e =
      settles m l (rules_for g k coin form m l sheet t) (take_up g k coin form m l sheet message t) (Outcome m l (SignedBy (deliver sheet message)) (carried t)) refuses
      (delivered sheet message t sizes e)

  pub outcome : (call : Call) → Outcome m l (SignedBy call) (carried_by form call) (after g k coin form m l call)
  outcome timer =
      settles m l (timer_rules m (lengths_of l)) _ (Outcome m l (SignedBy timer) None) refuses
      (λ first kept.
      cond_both (g.signs l.attestor (timeout_words m.phase.view)) _ _ (Outcome m l (SignedBy timer) None)
      (λ willing. accepts _ _ _ (inr (record { steady = not-false _ kept.1.0; words = refl }))
      (in_phase m l _ _ _ refl refl (past_kept m _ refl refl) refl (same_times m.phase _ refl refl)))
      (λ unwilling. refuses Unsigned))
  outcome (propose payload) =
      settles m l (propose_rules m (lengths_of l) (length payload)) (proposes form m l payload) (Outcome m l (SignedBy (propose payload)) None) refuses
      (λ first kept.
      let rises = (and_parts (in_turn m) (less_proposed m.proposed (planned m).step) (not-false _ kept.1.1.0)).1 in
      accepts _ _ _ refl (unmoved m l _ _ _ refl refl
      (record { proposed = above_not_proposed_below m.proposed (planned m).step rises; winners = λ v low. refl }) refl refl))
  outcome (deliver sheet message) =
      settles m l (rule (not (sized m.site (lengths_of l))) Sizes ∷ []) (deliver_read g k coin form m l sheet message (read_message form message))
      (Outcome m l (SignedBy (deliver sheet message)) (carried_in (read_message form message))) refuses
      (λ first kept. read sheet message (read_message form message) (not-false _ kept.0) refl)
