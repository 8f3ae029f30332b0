-- Propose, to all: as the leader, in steady, a regular block on the highest certificate; in fallback the next height of the own chain. Once each.
use Rattle.std.specs.Prelude.{ℕ, ◌+◌, Bool, cond, not, ◌&&◌, ◌||◌, List, [], ◌∷◌, ◌++◌, length, Some, None, Ok, Option, ◌==◌, nat_lt}
use Rattle.blocks.specs.declared.head.Head.{Head}
use Rattle.blocks.specs.declared.rank.Kind.TheVariants.{Regular, Fallback}
use Rattle.blocks.specs.declared.statement.Statement.{Statement}
use Rattle.blocks.specs.Heads.{head_bytes}
use Rattle.blocks.specs.Limits.{last_round, payload_most}
use Rattle.blocks.specs.Ranks.{kind_number, leader, round}
use Rattle.wire.specs.declared.form.Form.{Form}
use Rattle.wire.specs.Layouts.{message_bytes}
use Rattle.wire.specs.Messages.{proposal}
use Rattle.member.specs.declared.types.Address.TheVariants.{All}
use Rattle.member.specs.declared.types.Refusal.TheVariants.{Sizes, Form as BadForm, OutOfStage, Ended}
use Rattle.member.specs.declared.state.Member.{Member}
use Rattle.member.specs.declared.state.Proposed.{Proposed}
use Rattle.member.specs.declared.sizes.Lengths.{Lengths}
use Rattle.member.specs.declared.plan.Base.{Base}
use Rattle.member.specs.declared.plan.Plan.{Plan}
use Rattle.member.specs.Words.{is_steady, is_in_fallback}
use Rattle.member.specs.States.{Lent, Left, row_of, with_proposed}
use Rattle.member.specs.See.{next_round}
use Rattle.member.specs.Sizes.{sized, lengths_of}
use Rattle.member.specs.Shelf.{shelved}
use Rattle.member.specs.Rules.{Rule, rule, first_broken, settled}
use Rattle.member.specs.Timer.{lent_signed}

-- compared from the left: view, kind, then round or height
abbrev pub less_proposed : Proposed → Proposed → Bool
less_proposed a b =
    nat_lt a.view.0 b.view.0
    || (a.view.0 == b.view.0
    && (nat_lt (kind_number a.kind) (kind_number b.kind) || (kind_number a.kind == kind_number b.kind && nat_lt a.step b.step)))

abbrev pub recorded_height : Option Statement → ℕ
recorded_height None = 0
recorded_height (Some s) = s.height

-- height 1 stands on the highest certificate, a greater one on the own row's
abbrev pub fallback_base : Member → Option Statement → Base
fallback_base m None = record { statement = m.chain.high; place = 0 }
fallback_base m (Some s) = record { statement = s; place = m.site.own }

abbrev pub regular_plan : Member → Plan
regular_plan m = record {
  step = record { view = m.phase.view; kind = Regular; step = m.chain.round.0 };
  height = 0;
  base = record { statement = m.chain.high; place = 0 };
}

abbrev pub fallback_plan : Member → Option Statement → Plan
fallback_plan m certificate = record {
  step = record { view = m.phase.view; kind = Fallback; step = recorded_height certificate + 1 };
  height = recorded_height certificate + 1;
  base = fallback_base m certificate;
}

abbrev pub planned : Member → Plan
planned m = cond (is_in_fallback m.phase.stage) (fallback_plan m (row_of m.rows m.site.own).certificate) (regular_plan m)

-- it is the member's turn: in steady as the leader of its round, which follows the highest certificate's; in fallback up to height 3
abbrev pub in_turn : Member → Bool
in_turn m =
    cond (is_in_fallback m.phase.stage) (nat_lt (recorded_height (row_of m.rows m.site.own).certificate) 3)
    (is_steady m.phase.stage
    && (leader m.site.members m.chain.round.0 == m.site.own && next_round m.chain.high.round.0 == m.chain.round.0))

-- in turn, and not proposed before
abbrev pub may_propose : Member → Bool
may_propose m = in_turn m && less_proposed m.proposed (planned m).step

abbrev pub propose_rules : Member → Lengths → ℕ → List Rule
propose_rules m k len =
    rule (not (sized m.site k)) Sizes
    ∷ rule (nat_lt payload_most len) BadForm
    ∷ rule (not (may_propose m)) OutOfStage
    ∷ rule (nat_lt last_round (next_round (planned m).base.statement.round.0)) Ended
    ∷ []

abbrev pub head_on : Member → Plan → ℕ → Head
head_on m p len = record {
  kind = p.step.kind;
  height = p.height;
  proposer = m.site.own;
  view = m.phase.view;
  round = round (next_round p.base.statement.round.0);
  parent = p.base.statement.id;
  payload = len;
}

-- message 1: a block's bytes, and the certificate of its parent behind them
abbrev pub proposal_bytes : Form → Head → List ℕ → Statement → List ℕ → List ℕ
proposal_bytes form head block parent certificate = message_bytes form (proposal
    (record { head = head; bytes = block; at = 1 })
    (record { statement = parent; bytes = certificate; at = 1 + length block }))

abbrev pub proposal_message : Form → Member → List (List ℕ) → List ℕ → List ℕ
proposal_message form m shelf payload =
    proposal_bytes form (head_on m (planned m) (length payload)) (head_bytes (head_on m (planned m) (length payload)) ++ payload) (planned m).base.statement
    (shelved form shelf (planned m).base.place (planned m).base.statement)

abbrev pub proposes : {S : Type 0} → Form → Member → Lent S → List ℕ → Left S
proposes form m l payload = record {
  result = Ok (record { to = All; length = length (proposal_message form m l.shelf payload); committed = 0 });
  member = with_proposed m (planned m).step;
  lent = lent_signed l l.attestor (proposal_message form m l.shelf payload);
}

-- what propose leaves
abbrev pub propose : {S : Type 0} → Form → Member → Lent S → List ℕ → Left S
propose form m l payload = settled (first_broken (propose_rules m (lengths_of l) (length payload))) m l (proposes form m l payload)
