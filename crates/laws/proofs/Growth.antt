-- Calls keep the table well linked and only add to what is committed.
use Rattle.std.proofs.Common.{◌≡◌, ℕ, ◌+◌, ◌≤◌, true, List, [], ◌∷◌, ◌++◌, length, Ok, Err, Option, sym, refl, ap, ◌∙◌, subst, append_assoc, arith, length-set, get_or-set_same}
use Rattle.std.proofs.lemmas.Bool.{cond_both}
use Rattle.attest.specs.declared.attestor.Attestor.{Ghosts}
use Rattle.coin.specs.declared.Coin.{Ghosts as CoinGhosts}
use Rattle.blocks.specs.declared.statement.Statement.{Statement}
use Rattle.table.specs.declared.held.Held.{Held}
use Rattle.table.specs.Ancestry.{extends}
use Rattle.table.specs.Committed.{Block, committed_list}
use Rattle.table.specs.Laws.{Beginning}
use Rattle.table.specs.Places.{genesis}
use Rattle.table.proofs.Orders.{extends_self}
use Rattle.wire.specs.declared.form.Form.{Form}
use Rattle.member.specs.declared.state.Member.{Member}
use Rattle.member.specs.declared.types.Answer.{Answer}
use Rattle.member.specs.declared.types.Refusal.TheVariants.{Sizes}
use Rattle.member.specs.See.{newly}
use Rattle.member.specs.SetUp.{site, fresh, set_up, prepared}
use Rattle.member.specs.Sizes.{sized, lengths_of}
use Rattle.member.specs.States.{Lent, Left}
use Rattle.laws.specs.Calls.{Call, after}
use Rattle.laws.specs.Growing.{LinkedMember, State, state_after, CommittedGrows}
use Rattle.laws.specs.Official.{carried_by}
use Rattle.laws.specs.Signing.{Signs}
use Rattle.laws.proofs.Holds.{sized_some}
use Rattle.laws.proofs.Laws.{chain_left}
use Rattle.laws.proofs.Links.{TableLeft, unheld, Onward, onward_left, still_linked, extends_on, grown, added, chained}
use Rattle.laws.proofs.Outcomes.{Outcome, refuses, accepts, outcome}

table_left : {S : Type 0} (m : Member) (l : Lent S) (Signed : S → Type 0) (carries : Option Statement) (left : Left S) → Outcome m l Signed carries left →
    TableLeft m l.table left.member left.lent.table
table_left m l Signed carries left (refuses x) = unheld refl refl
table_left m l Signed carries left (accepts a m' l' signed done) = done.tables

committed_by : {S : Type 0} (m : Member) (l : Lent S) (Signed : S → Type 0) (carries : Option Statement) (left : Left S) (a : Answer) → Outcome m l Signed carries left →
    left.result ≡ Ok a → a.committed ≡ newly l.table m.chain left.member.chain
committed_by m l Signed carries left a (refuses x) e = cc
committed_by m l Signed carries left a (accepts b m' l' signed done) e = let same : a ≡ b = cc in ap (λ x. x.committed) same ∙ done.counts

starts : {S : Type 0} (own n : ℕ) (l : Lent S) (m : Member) → set_up own n (lengths_of l) ≡ Ok m → LinkedMember m (prepared l).table
starts own n l m =
    cond_both (sized (site own n (length l.table)) (lengths_of l)) (Ok (fresh (site own n (length l.table)))) (Err Sizes)
    (λ r. r ≡ Ok m → LinkedMember m (prepared l).table)
    (λ e q.
    let same : fresh (site own n (length l.table)) ≡ m = cc in
    let some : 2 ≤ length l.table = sized_some (site own n (length l.table)) (lengths_of l) e in
    let long = length-set l.table 0 genesis in
    subst (λ x. LinkedMember x (prepared l).table) same (record {
      root = get_or-set_same l.table 0 genesis genesis (omega arith);
      follows = λ i pos lt. absurd (omega arith);
      committed = omega arith;
      room = omega arith;
    }))
    (λ e q. cc)

joined : (xs ys zs : List Block) → Beginning xs ys → Beginning ys zs → Beginning xs zs
joined xs ys zs p q = record { rest = p.rest ++ q.rest; whole = q.whole ∙ (ap (λ bs. bs ++ q.rest) p.whole ∙ append_assoc xs p.rest q.rest) }

-- what one step adds, seen from any place that the last committed block extended
record Added (m : Member) (t : List Held) (m' : Member) (t' : List Held) : Type 0 where
  linked : LinkedMember m' t'
  extended : (x : ℕ) → extends t m.chain.last x ≡ true → extends t' m'.chain.last x ≡ true
  beginning : Beginning (committed_list t m.chain.last) (committed_list t' m'.chain.last)

module _ {S C : Type 0} (g : Ghosts S) (k : CoinGhosts C) (coin : C) (form : Form) where
  abbrev next : State S → Call → State S
  next s call = record { member = (after g k coin form s.member s.lent call).member; lent = (after g k coin form s.member s.lent call).lent }

  module _ (m : Member) (l : Lent S) (call : Call) (links : LinkedMember m l.table) where
    abbrev m' : Member
    m' = (after g k coin form m l call).member

    abbrev t' : List Held
    t' = (after g k coin form m l call).lent.table

    on : Onward m l.table m'
    on =
        onward_left m l.table (carried_by form call) m' links.committed
        (chain_left m l (Signs g form m l call) (carried_by form call) (after g k coin form m l call) (outcome g k coin form m l call))

    tables : TableLeft m l.table m' t'
    tables = table_left m l (Signs g form m l call) (carried_by form call) (after g k coin form m l call) (outcome g k coin form m l call)

    once : Added m l.table m' t'
    once = record {
      linked = still_linked m l.table links m' on.low t' tables;
      extended = extends_on m l.table links m' on.low t' tables on.on;
      beginning = grown m l.table links m' on.low t' tables on.on;
    }

    counts : (a : Answer) → (after g k coin form m l call).result ≡ Ok a →
        length (committed_list t' m'.chain.last) ≡ length (committed_list l.table m.chain.last) + a.committed
    counts a e =
        added m l.table links m' on.low t' tables on.on
        ∙ sym (ap (λ n. length (committed_list l.table m.chain.last) + n)
        (committed_by m l (Signs g form m l call) (carried_by form call) (after g k coin form m l call) a (outcome g k coin form m l call) e))

  ever : (s : State S) (calls : List Call) → LinkedMember s.member s.lent.table →
      Added s.member s.lent.table (state_after g k coin form s calls).member (state_after g k coin form s calls).lent.table
  ever s [] links = record {
    linked = links;
    extended = λ x e. e;
    beginning = grown s.member s.lent.table links s.member links.committed s.lent.table (unheld refl refl) (extends_self s.lent.table s.member.chain.last);
  }
  ever s (call ∷ calls) links =
      let first = once s.member s.lent call links in
      let rest = ever (next s call) calls first.linked in
      record {
        linked = rest.linked;
        extended = λ x e. rest.extended x (first.extended x e);
        beginning = joined _ _ _ first.beginning rest.beginning;
      }

pub committed_grows_lem : {S C : Type 0} (g : Ghosts S) (k : CoinGhosts C) → CommittedGrows S C g k
committed_grows_lem g k = record {
  starts = starts;
  keeps = λ coin form s calls links. (ever g k coin form s calls links).linked;
  grows = λ coin form s calls links. record {
    extended = (ever g k coin form s calls links).extended s.member.chain.last (extends_self s.lent.table s.member.chain.last);
    beginning = (ever g k coin form s calls links).beginning;
  };
  counts = λ coin form m l call a links. counts g k coin form m l call links a;
  chained = chained;
}
