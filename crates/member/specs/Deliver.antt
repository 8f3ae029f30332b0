-- Deliver: for each of the seven messages its rules, in the order of the refusals, and what it does where none is broken.
use Rattle.std.specs.Prelude.{ℕ, ◌+◌, ◌-◌, ◌*◌, Bool, true, false, cond, not, ◌&&◌, ◌||◌, List, [], ◌∷◌, ◌++◌, map, length, drop, replicate, is_some, Some, None, Ok, Err, Option, Result, ◌==◌, nat_le, nat_lt, slice_set}
use Rattle.std.specs.List.{between, flat_map}
use Rattle.attest.specs.declared.attestor.Attestor.{Ghosts}
use Rattle.digest.specs.Bytes.{number16}
use Rattle.digest.specs.Digest.{digest}
use Rattle.blocks.specs.declared.head.Head.{Head}
use Rattle.blocks.specs.declared.rank.View.{View}
use Rattle.blocks.specs.declared.statement.Statement.{Statement}
use Rattle.blocks.specs.Heads.{said}
use Rattle.blocks.specs.Layout.{overlay}
use Rattle.blocks.specs.Limits.{last_view, last_round}
use Rattle.blocks.specs.Statements.{rank_of}
use Rattle.coin.specs.declared.Coin.{Ghosts as CoinGhosts}
use Rattle.coin.specs.Shares.{size}
use Rattle.tally.specs.declared.places.Refused.{Refused}
use Rattle.tally.specs.Puts.{put_to, judged}
use Rattle.collect.specs.declared.items.KeptVote.{KeptVote}
use Rattle.collect.specs.declared.items.KeptTimeout.{KeptTimeout}
use Rattle.collect.specs.declared.items.Finished.{Finished}
use Rattle.collect.specs.declared.items.KeptShare.{KeptShare}
use Rattle.collect.specs.Items.{vote_above, vote_alike, timeout_above, timeout_alike, finished_above, finished_alike, share_above, share_alike, vote_tail, timeout_tail, share_tail, built, kept}
use Rattle.table.specs.declared.held.Held.{Held}
use Rattle.table.specs.Places.{lookup}
use Rattle.wire.specs.declared.form.Form.{Form}
use Rattle.wire.specs.Certificates.{CertificatePart}
use Rattle.wire.specs.Entries.{Entry}
use Rattle.wire.specs.Layouts.{vote_words, timeout_words, share_words, entry_bytes, certificate_bytes, message_bytes}
use Rattle.wire.specs.Messages.{BlockPart, VoteText, TimeoutText, GatheredText, ShareText, Text, proposal, vote, timeout, timeout_certificate, certificate, share, coin_certificate, read_message}
use Rattle.wire.specs.Quorums.{quorum}
use Rattle.member.specs.declared.types.Address.{Address}
use Rattle.member.specs.declared.types.Address.TheVariants.{Nobody, All, One}
use Rattle.member.specs.declared.types.Answer.{Answer}
use Rattle.member.specs.declared.types.Refusal.{Refusal}
use Rattle.member.specs.declared.types.Refusal.TheVariants.{Sizes, Form as BadForm, Ahead, Past, BlockRule, NotHeld, Tag, NotEndorsed, Counted, Collector, OutOfStage, NoRoom, Ended, Fork, Sheet, Unsigned}
use Rattle.member.specs.declared.state.Chain.{Chain}
use Rattle.member.specs.declared.state.Member.{Member}
use Rattle.member.specs.declared.rows.Row.{Row}
use Rattle.member.specs.Words.{is_in_fallback}
use Rattle.member.specs.States.{Tallies, Lent, Left, refused, row_of, with_chain, with_phase, with_rows}
use Rattle.member.specs.Sizes.{sized, lengths_of}
use Rattle.member.specs.See.{is_fallback, unendorsed, see, forks, see_shelf, newly}
use Rattle.member.specs.Record.{record_rows, record_shelf}
use Rattle.member.specs.Votes.{votes, voted_phase, voted_rows, collector}
use Rattle.member.specs.Exit.{entered, place_of, exit, exit_shelf, exit_forks}
use Rattle.member.specs.Accepting.{certificate_accepted, timeouts_accepted, share_of, coin_entries, shares_accepted}
use Rattle.member.specs.BlockRules.{opens, mismatched, missing, proposal_breaks}
use Rattle.member.specs.Rules.{Rule, rule, first_broken, settled}

-- the view is ahead of the member's, or past
abbrev pub ahead : Member → View → Bool
ahead m v = nat_lt m.phase.view.0 v.0

abbrev pub past : Member → View → Bool
past m v = nat_lt v.0 m.phase.view.0

-- a fallback block, vote or certificate of this view
abbrev pub of_fallback : Member → Statement → Bool
of_fallback m s = is_fallback s.kind && s.view.0 == m.phase.view.0

abbrev pub outside_fallback : Member → Bool
outside_fallback m = not (is_in_fallback m.phase.stage)

-- a tally's answer
abbrev pub refuses : Result Bool Refused → Bool
refuses (Ok b) = false
refuses (Err e) = true

abbrev pub reaches : Result Bool Refused → Bool
reaches (Ok b) = b
reaches (Err e) = false

abbrev pub answer : Address → ℕ → ℕ → Result Answer Refusal
answer to len committed = Ok (record { to = to; length = len; committed = committed })

-- what a call did without a message, or with one
abbrev pub quiet : {S : Type 0} → Member → Lent S → ℕ → Left S
quiet m l committed = record { result = answer Nobody 0 committed; member = m; lent = l }

abbrev pub with_out : {S : Type 0} → Lent S → List ℕ → Lent S
with_out l message = record { attestor = l.attestor; tallies = l.tallies; table = l.table; shelf = l.shelf; out = overlay l.out message }

abbrev pub sends : {S : Type 0} → Member → Lent S → Address → List ℕ → ℕ → Left S
sends m l to message committed = record { result = answer to (length message) committed; member = m; lent = with_out l message }

abbrev pub with_shelf : {S : Type 0} → Lent S → List (List ℕ) → Lent S
with_shelf l shelf = record { attestor = l.attestor; tallies = l.tallies; table = l.table; shelf = shelf; out = l.out }

abbrev pub with_tallies : {S : Type 0} → Lent S → Tallies → Lent S
with_tallies l t = record { attestor = l.attestor; tallies = t; table = l.table; shelf = l.shelf; out = l.out }

-- 1, proposal ---------------------------------------------------------------------------------------------------------------

-- the certificate under a regular or height-1 block, or under a past one, is seen; under height 2 or 3 of this view it is recorded
abbrev pub sees_under : Member → Head → Bool
sees_under m h = not (is_fallback h.kind && (h.view.0 == m.phase.view.0 && nat_lt 1 h.height))

abbrev pub is_held : Member → List Held → List ℕ → Bool
is_held m table id = is_some (lookup table m.held id)

abbrev pub proposal_rules : {S : Type 0} → Ghosts S → Form → Member → Lent S → BlockPart → CertificatePart → List Rule
proposal_rules g form m l b c =
    rule (ahead m b.head.view) Ahead
    ∷ rule (proposal_breaks m.site.members l.table m.held b.head c.statement) BlockRule
    ∷ rule (missing l.table m.held c.statement) NotHeld
    ∷ rule (not (certificate_accepted g l.attestor form c)) Tag
    ∷ rule (unendorsed m (said b.head (digest b.bytes)) || unendorsed m c.statement) NotEndorsed
    ∷ rule (of_fallback m (said b.head (digest b.bytes)) && outside_fallback m) OutOfStage
    ∷ rule (not (is_held m l.table (digest b.bytes)) && nat_le m.site.places m.held) NoRoom
    ∷ rule (nat_lt last_round b.head.round.0) Ended
    ∷ rule (sees_under m b.head && forks m.chain l.table (place_of l.table m.held c.statement)) Fork
    ∷ []

-- the certificate is seen or recorded
abbrev pub under_chain : Member → List Held → Head → Statement → Chain
under_chain m table h s = cond (sees_under m h) (see m.chain table s (place_of table m.held s)) m.chain

abbrev pub under_rows : Member → Head → Statement → List Row
under_rows m h s = cond (sees_under m h) m.rows (record_rows m.rows s)

abbrev pub under_shelf : Member → List (List ℕ) → Head → CertificatePart → List (List ℕ)
under_shelf m shelf h c =
    cond (sees_under m h) (see_shelf shelf m.chain c.statement c.bytes) (record_shelf shelf m.rows c.statement c.bytes)

-- hold: a new block takes the next place; its parent is known by place
abbrev pub held_block : BlockPart → ℕ → Held
held_block b parent = record {
  head = b.head;
  id = digest b.bytes;
  parent = parent;
  payload = drop 45 b.bytes ++ replicate (192 - (length b.bytes - 45)) 0;
}

abbrev pub hold_table : Member → List Held → BlockPart → Statement → List Held
hold_table m table b s =
    cond (is_held m table (digest b.bytes)) table (slice_set table m.held (held_block b (place_of table m.held s)))

abbrev pub hold_count : Member → List Held → BlockPart → ℕ
hold_count m table b = cond (is_held m table (digest b.bytes)) m.held (m.held + 1)

-- whether the block is voted for, once the certificate under it is seen or recorded
abbrev pub votes_on : Member → List Held → BlockPart → CertificatePart → Bool
votes_on m table b c =
    votes m.phase (under_chain m table b.head c.statement) (under_rows m b.head c.statement) b.head (rank_of c.statement)

abbrev pub proposal_member : Member → List Held → BlockPart → CertificatePart → Bool → Member
proposal_member m table b c voted = record {
  site = m.site;
  held = hold_count m table b;
  chain = under_chain m table b.head c.statement;
  phase = cond voted (voted_phase m.phase b.head) m.phase;
  proposed = m.proposed;
  winners = m.winners;
  rows = cond voted (voted_rows (under_rows m b.head c.statement) b.head) (under_rows m b.head c.statement);
}

abbrev pub proposal_lent : {S : Type 0} → Member → Lent S → BlockPart → CertificatePart → S → List ℕ → Lent S
proposal_lent m l b c attestor out = record {
  attestor = attestor;
  tallies = l.tallies;
  table = hold_table m l.table b c.statement;
  shelf = under_shelf m l.shelf b.head c;
  out = out;
}

abbrev pub vote_message : Form → Member → BlockPart → List ℕ → List ℕ
vote_message form m b tag =
    message_bytes form (vote (record { statement = said b.head (digest b.bytes); signer = m.site.own; tag = tag }))

abbrev pub proposal_commits : {S : Type 0} → Member → Lent S → BlockPart → CertificatePart → ℕ
proposal_commits m l b c = newly l.table m.chain (under_chain m l.table b.head c.statement)

abbrev pub cast_vote : {S : Type 0} → Ghosts S → Form → Member → Lent S → BlockPart → CertificatePart → List ℕ → Left S
cast_vote g form m l b c words =
    cond (g.signs l.attestor words)
    (record {
      result = answer (One (collector m.site.members (said b.head (digest b.bytes)))) (length (vote_message form m b (g.tag_of l.attestor words))) (proposal_commits m l b c);
      member = proposal_member m l.table b c true;
      lent = proposal_lent m l b c (g.signed l.attestor words) (overlay l.out (vote_message form m b (g.tag_of l.attestor words)));
    })
    (refused m l Unsigned)

abbrev pub take_proposal : {S : Type 0} → Ghosts S → Form → Member → Lent S → BlockPart → CertificatePart → Left S
take_proposal g form m l b c =
    cond (votes_on m l.table b c)
    (cast_vote g form m l b c (vote_words (said b.head (digest b.bytes))))
    (record {
      result = answer Nobody 0 (proposal_commits m l b c);
      member = proposal_member m l.table b c false;
      lent = proposal_lent m l b c l.attestor l.out;
    })

-- a certificate that was built, or came in message 5 or a timeout ------------------------------------------------------------

abbrev pub seen_member : Member → List Held → Statement → Member
seen_member m table s = with_chain m (see m.chain table s (place_of table m.held s))

abbrev pub seen_commits : Member → List Held → Statement → ℕ
seen_commits m table s = newly table m.chain (see m.chain table s (place_of table m.held s))

abbrev pub seen_lent : {S : Type 0} → Member → Lent S → Statement → List ℕ → Lent S
seen_lent m l s bytes = with_shelf l (see_shelf l.shelf m.chain s bytes)

abbrev pub recorded_member : Member → Statement → Member
recorded_member m s = with_rows m (record_rows m.rows s)

abbrev pub recorded_lent : {S : Type 0} → Member → Lent S → Statement → List ℕ → Lent S
recorded_lent m l s bytes = with_shelf l (record_shelf l.shelf m.rows s bytes)

-- 2, vote -------------------------------------------------------------------------------------------------------------------

abbrev pub vote_item : VoteText → KeptVote
vote_item v = record { statement = v.statement; tag = kept v.tag }

abbrev pub count_vote : Member → Tallies → VoteText → Result Bool Refused
count_vote m t v = judged vote_above vote_alike t.votes (v.signer - 1) (vote_item v) (quorum m.site.members)

abbrev pub vote_rules : {S : Type 0} → Ghosts S → Member → Lent S → VoteText → List Rule
vote_rules g m l v =
    rule (ahead m v.statement.view) Ahead
    ∷ rule (past m v.statement.view) Past
    ∷ rule (mismatched l.table m.held v.statement) BlockRule
    ∷ rule (missing l.table m.held v.statement) NotHeld
    ∷ rule (not (g.accepts l.attestor v.signer (vote_words v.statement) v.tag)) Tag
    ∷ rule (refuses (count_vote m l.tallies v)) Counted
    ∷ rule (not (collector m.site.members v.statement == m.site.own)) Collector
    ∷ rule (of_fallback m v.statement && outside_fallback m) OutOfStage
    ∷ rule
    (reaches (count_vote m l.tallies v)
    && (not (is_fallback v.statement.kind) && forks m.chain l.table (place_of l.table m.held v.statement)))
    Fork
    ∷ []

abbrev pub votes_put : Tallies → VoteText → Tallies
votes_put t v = record {
  votes = put_to vote_above t.votes (v.signer - 1) (vote_item v);
  timeouts = t.timeouts;
  finished = t.finished;
  shares = t.shares;
}

-- the certificate of the kept votes that are alike
abbrev pub vote_certificate : Form → Tallies → VoteText → List ℕ
vote_certificate form t v = certificate_bytes v.statement (built vote_alike (vote_tail form.width) (vote_item v) (votes_put t v).votes)

abbrev pub sole : Form → Statement → List ℕ → List ℕ
sole form s bytes = message_bytes form (certificate (record { statement = s; bytes = bytes; at = 1 }))

abbrev pub vote_reached : {S : Type 0} → Form → Member → Lent S → VoteText → List ℕ → Left S
vote_reached form m l v bytes =
    cond (is_fallback v.statement.kind)
    (cond (v.statement.height == 3)
    (sends (recorded_member m v.statement) (recorded_lent m l v.statement bytes) All (sole form v.statement bytes) 0)
    (quiet (recorded_member m v.statement) (recorded_lent m l v.statement bytes) 0))
    (quiet (seen_member m l.table v.statement) (seen_lent m l v.statement bytes) (seen_commits m l.table v.statement))

abbrev pub take_vote : {S : Type 0} → Form → Member → Lent S → VoteText → Left S
take_vote form m l v =
    cond (reaches (count_vote m l.tallies v))
    (vote_reached form m (with_tallies l (votes_put l.tallies v)) v (vote_certificate form l.tallies v))
    (quiet m (with_tallies l (votes_put l.tallies v)) 0)

-- 3, timeout ----------------------------------------------------------------------------------------------------------------

abbrev pub timeout_item : TimeoutText → KeptTimeout
timeout_item t = record { view = t.view; tag = kept t.tag }

abbrev pub count_timeout : Member → Tallies → TimeoutText → Result Bool Refused
count_timeout m ts t = judged timeout_above timeout_alike ts.timeouts (t.signer - 1) (timeout_item t) (quorum m.site.members)

abbrev pub timeout_rules : {S : Type 0} → Ghosts S → Form → Member → Lent S → TimeoutText → List Rule
timeout_rules g form m l t =
    rule (ahead m t.view) Ahead
    ∷ rule (past m t.view) Past
    ∷ rule (not (opens t.view t.certificate.statement) || mismatched l.table m.held t.certificate.statement) BlockRule
    ∷ rule (missing l.table m.held t.certificate.statement) NotHeld
    ∷ rule (not (g.accepts l.attestor t.signer (timeout_words t.view) t.tag && certificate_accepted g l.attestor form t.certificate)) Tag
    ∷ rule (unendorsed m t.certificate.statement) NotEndorsed
    ∷ rule (refuses (count_timeout m l.tallies t)) Counted
    ∷ rule (is_in_fallback m.phase.stage) OutOfStage
    ∷ rule (forks m.chain l.table (place_of l.table m.held t.certificate.statement)) Fork
    ∷ []

abbrev pub timeouts_put : Tallies → TimeoutText → Tallies
timeouts_put ts t = record {
  votes = ts.votes;
  timeouts = put_to timeout_above ts.timeouts (t.signer - 1) (timeout_item t);
  finished = ts.finished;
  shares = ts.shares;
}

-- message 4 of the kept timeouts that are alike
abbrev pub timeouts_message : Form → Tallies → TimeoutText → List ℕ
timeouts_message form ts t = message_bytes form (timeout_certificate (record {
  view = t.view;
  entries = flat_map entry_bytes (built timeout_alike (timeout_tail form.width) (timeout_item t) (timeouts_put ts t).timeouts);
}))

abbrev pub take_timeout : {S : Type 0} → Form → Member → Lent S → TimeoutText → Left S
take_timeout form m l t =
    cond (reaches (count_timeout m l.tallies t))
    (sends (with_phase (seen_member m l.table t.certificate.statement) (entered m.phase))
    (with_tallies (seen_lent m l t.certificate.statement t.certificate.bytes) (timeouts_put l.tallies t))
    All (timeouts_message form l.tallies t) (seen_commits m l.table t.certificate.statement))
    (quiet (seen_member m l.table t.certificate.statement)
    (with_tallies (seen_lent m l t.certificate.statement t.certificate.bytes) (timeouts_put l.tallies t))
    (seen_commits m l.table t.certificate.statement))

-- 4, timeout certificate ----------------------------------------------------------------------------------------------------

abbrev pub timeout_certificate_rules : {S : Type 0} → Ghosts S → Form → Member → Lent S → GatheredText → List Rule
timeout_certificate_rules g form m l t =
    rule (ahead m t.view) Ahead
    ∷ rule (past m t.view) Past
    ∷ rule (not (timeouts_accepted g l.attestor form t)) Tag
    ∷ rule (is_in_fallback m.phase.stage) OutOfStage
    ∷ []

-- nothing is seen, nothing counted; the same bytes go on to all
abbrev pub take_timeout_certificate : {S : Type 0} → Member → Lent S → List ℕ → Left S
take_timeout_certificate m l message = sends (with_phase m (entered m.phase)) l All message 0

-- 5, certificate ------------------------------------------------------------------------------------------------------------

abbrev pub finished_item : Statement → Finished
finished_item s = record { view = s.view }

abbrev pub count_finished : Member → Tallies → Statement → Result Bool Refused
count_finished m t s = judged finished_above finished_alike t.finished (s.proposer - 1) (finished_item s) (quorum m.site.members)

-- a fallback chain of this view is finished
abbrev pub finishes : Member → Statement → Bool
finishes m s = of_fallback m s && s.height == 3

-- the dealer's sheet: value (2) and tag (T), view by view
abbrev pub sheet_end : Form → Member → ℕ
sheet_end form m = (m.phase.view.0 + 1) * (2 + form.width)

abbrev pub certificate_rules : {S : Type 0} → Ghosts S → Form → Member → Lent S → List ℕ → CertificatePart → List Rule
certificate_rules g form m l sheet c =
    rule (ahead m c.statement.view) Ahead
    ∷ rule (mismatched l.table m.held c.statement) BlockRule
    ∷ rule (missing l.table m.held c.statement) NotHeld
    ∷ rule (not (certificate_accepted g l.attestor form c)) Tag
    ∷ rule (unendorsed m c.statement) NotEndorsed
    ∷ rule (finishes m c.statement && refuses (count_finished m l.tallies c.statement)) Counted
    ∷ rule (of_fallback m c.statement && outside_fallback m) OutOfStage
    ∷ rule (not (of_fallback m c.statement) && forks m.chain l.table (place_of l.table m.held c.statement)) Fork
    ∷ rule
    (finishes m c.statement
    && (reaches (count_finished m l.tallies c.statement) && nat_lt (length sheet) (sheet_end form m)))
    Sheet
    ∷ []

abbrev pub finished_put : Tallies → Statement → Tallies
finished_put t s = record {
  votes = t.votes;
  timeouts = t.timeouts;
  finished = put_to finished_above t.finished (s.proposer - 1) (finished_item s);
  shares = t.shares;
}

-- the own share, as the sheet has it
abbrev pub own_share : Form → Member → List ℕ → List ℕ
own_share form m sheet = message_bytes form (share (record {
  view = m.phase.view;
  member = m.site.own;
  value = number16 sheet (m.phase.view.0 * (2 + form.width));
  tag = between (m.phase.view.0 * (2 + form.width) + 2) (sheet_end form m) sheet;
}))

abbrev pub take_finished : {S : Type 0} → Form → Member → Lent S → List ℕ → CertificatePart → Left S
take_finished form m l sheet c =
    cond (reaches (count_finished m l.tallies c.statement))
    (sends (recorded_member m c.statement) (with_tallies (recorded_lent m l c.statement c.bytes) (finished_put l.tallies c.statement)) All (own_share form m sheet) 0)
    (quiet (recorded_member m c.statement) (with_tallies (recorded_lent m l c.statement c.bytes) (finished_put l.tallies c.statement)) 0)

abbrev pub take_certificate : {S : Type 0} → Form → Member → Lent S → List ℕ → CertificatePart → Left S
take_certificate form m l sheet c =
    cond (of_fallback m c.statement)
    (cond (c.statement.height == 3) (take_finished form m l sheet c)
    (quiet (recorded_member m c.statement) (recorded_lent m l c.statement c.bytes) 0))
    (quiet (seen_member m l.table c.statement) (seen_lent m l c.statement c.bytes) (seen_commits m l.table c.statement))

-- exit by a winner ----------------------------------------------------------------------------------------------------------

abbrev pub winners_row : Member → ℕ → Option Statement
winners_row m w = (row_of m.rows w).certificate

abbrev pub exit_commits : Member → List Held → ℕ → ℕ
exit_commits m table w = newly table m.chain (exit m table w).chain

abbrev pub exit_lent : {S : Type 0} → Form → Member → Lent S → ℕ → Lent S
exit_lent form m l w = with_shelf l (exit_shelf form l.shelf m.chain w (winners_row m w))

abbrev pub last_view_ends : Member → Bool
last_view_ends m = nat_le last_view m.phase.view.0

-- 6, share ------------------------------------------------------------------------------------------------------------------

abbrev pub share_item : ShareText → KeptShare
share_item s = record { view = s.view; value = s.value; tag = kept s.tag }

abbrev pub count_share : Member → Tallies → ShareText → Result Bool Refused
count_share m t s = judged share_above share_alike t.shares (s.member - 1) (share_item s) (size m.site.members)

abbrev pub shares_put : Tallies → ShareText → Tallies
shares_put t s = record {
  votes = t.votes;
  timeouts = t.timeouts;
  finished = t.finished;
  shares = put_to share_above t.shares (s.member - 1) (share_item s);
}

-- the kept shares that are alike
abbrev pub kept_shares : Form → Tallies → ShareText → List Entry
kept_shares form t s = built share_alike (share_tail form.width) (share_item s) (shares_put t s).shares

abbrev pub winner_by : {C : Type 0} → CoinGhosts C → C → Member → List Entry → ℕ
winner_by k coin m es = k.elected coin m.site.members (map share_of es)

abbrev pub share_rules : {S C : Type 0} → Ghosts S → CoinGhosts C → C → Form → Member → Lent S → ShareText → List Rule
share_rules g k coin form m l s =
    rule (ahead m s.view) Ahead
    ∷ rule (past m s.view) Past
    ∷ rule (not (g.accepts l.attestor 0 (share_words s.view s.member s.value) s.tag)) Tag
    ∷ rule (refuses (count_share m l.tallies s)) Counted
    ∷ rule (reaches (count_share m l.tallies s) && last_view_ends m) Ended
    ∷ rule
    (reaches (count_share m l.tallies s)
    && exit_forks m.chain l.table m.held (winners_row m (winner_by k coin m (kept_shares form l.tallies s))))
    Fork
    ∷ []

-- message 7 of the kept shares
abbrev pub shares_message : Form → View → List Entry → List ℕ
shares_message form v es = message_bytes form (coin_certificate (record { view = v; entries = flat_map entry_bytes es }))

abbrev pub take_share : {S C : Type 0} → CoinGhosts C → C → Form → Member → Lent S → ShareText → Left S
take_share k coin form m l s =
    cond (reaches (count_share m l.tallies s))
    (sends (exit m l.table (winner_by k coin m (kept_shares form l.tallies s)))
    (with_tallies (exit_lent form m l (winner_by k coin m (kept_shares form l.tallies s))) (shares_put l.tallies s))
    All (shares_message form s.view (kept_shares form l.tallies s)) (exit_commits m l.table (winner_by k coin m (kept_shares form l.tallies s))))
    (quiet m (with_tallies l (shares_put l.tallies s)) 0)

-- 7, coin certificate -------------------------------------------------------------------------------------------------------

abbrev pub coin_certificate_rules : {S C : Type 0} → Ghosts S → CoinGhosts C → C → Form → Member → Lent S → GatheredText → List Rule
coin_certificate_rules g k coin form m l t =
    rule (ahead m t.view) Ahead
    ∷ rule (past m t.view) Past
    ∷ rule (not (shares_accepted g l.attestor form t)) Tag
    ∷ rule (last_view_ends m) Ended
    ∷ rule (exit_forks m.chain l.table m.held (winners_row m (winner_by k coin m (coin_entries form t)))) Fork
    ∷ []

-- the same bytes go on to all
abbrev pub take_coin_certificate : {S C : Type 0} → CoinGhosts C → C → Form → Member → Lent S → GatheredText → List ℕ → Left S
take_coin_certificate k coin form m l t message =
    sends (exit m l.table (winner_by k coin m (coin_entries form t))) (exit_lent form m l (winner_by k coin m (coin_entries form t)))
    All message (exit_commits m l.table (winner_by k coin m (coin_entries form t)))

-- the call ------------------------------------------------------------------------------------------------------------------

abbrev pub rules_for : {S C : Type 0} → Ghosts S → CoinGhosts C → C → Form → Member → Lent S → List ℕ → Text → List Rule
rules_for g k coin form m l sheet (proposal b c) = proposal_rules g form m l b c
rules_for g k coin form m l sheet (vote v) = vote_rules g m l v
rules_for g k coin form m l sheet (timeout t) = timeout_rules g form m l t
rules_for g k coin form m l sheet (timeout_certificate t) = timeout_certificate_rules g form m l t
rules_for g k coin form m l sheet (certificate c) = certificate_rules g form m l sheet c
rules_for g k coin form m l sheet (share s) = share_rules g k coin form m l s
rules_for g k coin form m l sheet (coin_certificate t) = coin_certificate_rules g k coin form m l t

abbrev pub take_up : {S C : Type 0} → Ghosts S → CoinGhosts C → C → Form → Member → Lent S → List ℕ → List ℕ → Text → Left S
take_up g k coin form m l sheet message (proposal b c) = take_proposal g form m l b c
take_up g k coin form m l sheet message (vote v) = take_vote form m l v
take_up g k coin form m l sheet message (timeout t) = take_timeout form m l t
take_up g k coin form m l sheet message (timeout_certificate t) = take_timeout_certificate m l message
take_up g k coin form m l sheet message (certificate c) = take_certificate form m l sheet c
take_up g k coin form m l sheet message (share s) = take_share k coin form m l s
take_up g k coin form m l sheet message (coin_certificate t) = take_coin_certificate k coin form m l t message

abbrev pub deliver_read : {S C : Type 0} → Ghosts S → CoinGhosts C → C → Form → Member → Lent S → List ℕ → List ℕ → Option Text → Left S
deliver_read g k coin form m l sheet message None = refused m l BadForm
deliver_read g k coin form m l sheet message (Some t) =
    settled (first_broken (rules_for g k coin form m l sheet t)) m l (take_up g k coin form m l sheet message t)

-- what deliver leaves
abbrev pub deliver : {S C : Type 0} → Ghosts S → CoinGhosts C → C → Form → Member → Lent S → List ℕ → List ℕ → Left S
deliver g k coin form m l sheet message =
    settled (first_broken (rule (not (sized m.site (lengths_of l))) Sizes ∷ [])) m l (deliver_read g k coin form m l sheet message (read_message form message))
