-- Timer, in stage steady: the stage becomes timed out, and a timeout with the highest certificate goes to all.
use Rattle.std.specs.Prelude.{ℕ, ◌+◌, cond, not, List, [], ◌∷◌, length, Ok}
use Rattle.attest.specs.declared.attestor.Attestor.{Ghosts}
use Rattle.blocks.specs.Layout.{overlay}
use Rattle.wire.specs.declared.form.Form.{Form}
use Rattle.wire.specs.Layouts.{timeout_words, message_bytes}
use Rattle.wire.specs.Messages.{timeout}
use Rattle.member.specs.declared.types.Address.TheVariants.{All}
use Rattle.member.specs.declared.types.Refusal.TheVariants.{Sizes, OutOfStage, Unsigned}
use Rattle.member.specs.declared.types.Stage.TheVariants.{TimedOut}
use Rattle.member.specs.declared.state.Member.{Member}
use Rattle.member.specs.declared.state.Phase.{Phase}
use Rattle.member.specs.declared.sizes.Lengths.{Lengths}
use Rattle.member.specs.Words.{is_steady}
use Rattle.member.specs.States.{Lent, Left, refused, with_phase}
use Rattle.member.specs.Sizes.{sized, lengths_of}
use Rattle.member.specs.Shelf.{shelved_part}
use Rattle.member.specs.Rules.{Rule, rule, first_broken, settled}

abbrev pub timer_rules : Member → Lengths → List Rule
timer_rules m k = rule (not (sized m.site k)) Sizes ∷ rule (not (is_steady m.phase.stage)) OutOfStage ∷ []

abbrev pub timed_out : Phase → Phase
timed_out p = record { view = p.view; stage = TimedOut; voted = p.voted }

-- the timeout with this tag
abbrev pub timeout_message : Form → Member → List (List ℕ) → List ℕ → List ℕ
timeout_message form m shelf tag = message_bytes form (timeout (record {
  view = m.phase.view;
  signer = m.site.own;
  tag = tag;
  certificate = shelved_part form shelf 0 m.chain.high (6 + form.width);
}))

abbrev pub lent_signed : {S : Type 0} → Lent S → S → List ℕ → Lent S
lent_signed l a message = record {
  attestor = a;
  tallies = l.tallies;
  table = l.table;
  shelf = l.shelf;
  out = overlay l.out message;
}

abbrev pub times_out : {S : Type 0} → Ghosts S → Form → Member → Lent S → Left S
times_out g form m l = record {
  result = Ok (record { to = All; length = length (timeout_message form m l.shelf (g.tag_of l.attestor (timeout_words m.phase.view))); committed = 0 });
  member = with_phase m (timed_out m.phase);
  lent = lent_signed l (g.signed l.attestor (timeout_words m.phase.view)) (timeout_message form m l.shelf (g.tag_of l.attestor (timeout_words m.phase.view)));
}

-- what the timer leaves
abbrev pub timer : {S : Type 0} → Ghosts S → Form → Member → Lent S → Left S
timer g form m l =
    settled (first_broken (timer_rules m (lengths_of l))) m l
    (cond (g.signs l.attestor (timeout_words m.phase.view)) (times_out g form m l) (refused m l Unsigned))
