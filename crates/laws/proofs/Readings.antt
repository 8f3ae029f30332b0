-- In a proposal that is read, a block of height 2 or 3 is a fallback block.
use Rattle.std.proofs.Common.{◌≡◌, ℕ, ◌+◌, ◌<◌, Bool, true, false, cond, ◌&&◌, eqb, ltb, leb, List, length, get_or, take, drop, IfSome, Some, None, Option, refl, subst, arith}
use Rattle.std.specs.Option.{option_map}
use Rattle.std.proofs.lemmas.Bool.{cond_both, and_parts, eqb-true}
use Rattle.coin.specs.Shares.{is_member, size}
use Rattle.digest.specs.Bytes.{number16, number32}
use Rattle.blocks.specs.declared.head.Head.{Head}
use Rattle.blocks.specs.declared.rank.Kind.TheVariants.{Regular, Fallback}
use Rattle.blocks.specs.declared.statement.Statement.{Statement}
use Rattle.blocks.specs.Heads.{head_of, head_formed, read_head}
use Rattle.blocks.specs.Limits.{head_length}
use Rattle.blocks.specs.Ranks.{view}
use Rattle.blocks.specs.Statements.{height_fits, read_statement}
use Rattle.wire.specs.declared.form.Form.{Form}
use Rattle.wire.specs.Certificates.{CertificatePart, read_certificate}
use Rattle.wire.specs.Messages.{BlockPart, Text, proposal, vote, timeout, timeout_certificate, certificate, share, coin_certificate, block_headed, read_block, proposal_of, read_proposal, vote_saying, read_vote, timeout_with, read_timeout, read_timeout_certificate, read_sole, read_share, read_coin_certificate, by_kind, read_message, gathered_formed, gathered}
use Rattle.wire.specs.Quorums.{quorum}
use Rattle.member.specs.See.{is_fallback}

abbrev pub Tall : Head → Type 0
Tall h = 1 < h.height → is_fallback h.kind ≡ true

abbrev Fits : Text → Type 0
Fits (proposal b c) = Tall b.head
Fits (vote v) = Unit {0}
Fits (timeout t) = Unit {0}
Fits (timeout_certificate t) = Unit {0}
Fits (certificate c) = Unit {0}
Fits (share s) = Unit {0}
Fits (coin_certificate t) = Unit {0}

tall_kind : (t : Bool) (h : ℕ) (other : Bool) → cond t (eqb h 0) other ≡ true → 1 < h → is_fallback (cond t Regular Fallback) ≡ true
tall_kind true h other e high = absurd (omega (arith, eqb-true h 0 e))
tall_kind false h other e high = refl

head_fits : (n : ℕ) (bs : List ℕ) → IfSome (read_head n bs) Tall
head_fits n bs =
    cond_both (eqb (length bs) head_length && head_formed n bs) (Some (head_of bs)) None (λ o. IfSome o Tall)
    (λ e.
    let formed = (and_parts (eqb (length bs) head_length) (head_formed n bs) e).1 in
    let after_least = (and_parts (ltb 0 (get_or bs 2 0)) _ formed).1 in
    let after_most = (and_parts (leb (get_or bs 2 0) n) _ after_least).1 in
    let fits = (and_parts (height_fits (get_or bs 0 0) (get_or bs 1 0)) _ after_most).0 in
    λ high. tall_kind (eqb (get_or bs 0 0) 0) (get_or bs 1 0) _ fits high)
    (λ e. tt)

block_fits : (at : ℕ) (bs : List ℕ) (o : Option Head) → IfSome o Tall → IfSome (block_headed at bs o) (λ b. Tall b.head)
block_fits at bs None f = tt
block_fits at bs (Some h) f =
    cond_both (leb (45 + h.payload) (length bs)) (Some (record { head = h; bytes = take (45 + h.payload) bs; at = at })) None
    (λ o. IfSome o (λ (b : BlockPart). Tall b.head)) (λ e. f) (λ e. tt)

mapped_fits : {A : Type 0} (f : A → Text) (o : Option A) → ((x : A) → Fits (f x)) → IfSome (option_map f o) Fits
mapped_fits f None fits = tt
mapped_fits f (Some x) fits = fits x

proposal_fits : (form : Form) (bs : List ℕ) (o : Option BlockPart) → IfSome o (λ b. Tall b.head) → IfSome (proposal_of form bs o) Fits
proposal_fits form bs None f = tt
proposal_fits form bs (Some b) f = mapped_fits (proposal b) (read_certificate form (1 + length b.bytes) (drop (length b.bytes) bs)) (λ c. f)

read_block_fits : (form : Form) (bs : List ℕ) → IfSome (read_block form 1 bs) (λ b. Tall b.head)
read_block_fits form bs =
    cond_both (leb 45 (length bs)) (block_headed 1 bs (read_head form.members (take 45 bs))) None (λ o. IfSome o (λ (b : BlockPart). Tall b.head))
    (λ e. block_fits 1 bs (read_head form.members (take 45 bs)) (head_fits form.members (take 45 bs))) (λ e. tt)

-- a text of another kind, or none
either : (b : Bool) (x y : Option Text) → IfSome x Fits → IfSome y Fits → IfSome (cond b x y) Fits
either b x y f g = cond_both b x y (λ o. IfSome o Fits) (λ e. f) (λ e. g)

alone : (b : Bool) (t : Text) → Fits t → IfSome (cond b (Some t) None) Fits
alone b t f = either b (Some t) None f tt

vote_fits : (form : Form) (bs : List ℕ) (o : Option Statement) → IfSome (vote_saying form bs o) Fits
vote_fits form bs None = tt
vote_fits form bs (Some s) = alone (is_member form.members (get_or bs 43 0)) (vote (record { statement = s; signer = get_or bs 43 0; tag = drop 44 bs })) tt

kind_fits : (form : Form) (kind : ℕ) (bs : List ℕ) → IfSome (by_kind form kind bs) Fits
kind_fits form kind bs =
    either (eqb kind 1) (read_proposal form bs) _ (proposal_fits form bs (read_block form 1 bs) (read_block_fits form bs))
    (either (eqb kind 2) (read_vote form bs) _
    (either (eqb (length bs) (44 + form.width)) (vote_saying form bs (read_statement form.members (take 43 bs))) None (vote_fits form bs (read_statement form.members (take 43 bs))) tt)
    (either (eqb kind 3) (read_timeout form bs) _
    (either (leb (5 + form.width) (length bs) && is_member form.members (get_or bs 4 0)) (option_map (timeout_with form bs) (read_certificate form (6 + form.width) (drop (5 + form.width) bs))) None
    (mapped_fits (timeout_with form bs) (read_certificate form (6 + form.width) (drop (5 + form.width) bs)) (λ c. tt)) tt)
    (either (eqb kind 4) (read_timeout_certificate form bs) _
    (alone (gathered_formed form.members None form.width (quorum form.members) bs) (timeout_certificate (gathered bs)) tt)
    (either (eqb kind 5) (read_sole form bs) _ (mapped_fits certificate (read_certificate form 1 bs) (λ c. tt))
    (either (eqb kind 6) (read_share form bs) _
    (alone (eqb (length bs) (7 + form.width) && (is_member form.members (get_or bs 4 0) && leb (number16 bs 5) form.greatest))
    (share (record { view = view (number32 bs 0); member = get_or bs 4 0; value = number16 bs 5; tag = drop 7 bs })) tt)
    (either (eqb kind 7) (read_coin_certificate form bs) None
    (alone (gathered_formed form.members (Some form.greatest) (2 + form.width) (size form.members) bs) (coin_certificate (gathered bs)) tt) tt))))))

pub tall_fallback : (form : Form) (message : List ℕ) (b : BlockPart) (c : CertificatePart) → read_message form message ≡ Some (proposal b c) → Tall b.head
tall_fallback form message b c e =
    subst (λ o. IfSome o Fits) e (either (leb 1 (length message)) (by_kind form (get_or message 0 0) (drop 1 message)) None (kind_fits form (get_or message 0 0) (drop 1 message)) tt)
