-- Pair keys keep the laws of an attestor.
use Rattle.std.specs.Prelude.{◌≡◌, ℕ, ◌-◌, ◌*◌, true, [], length, take, slice_index_or, refl}
use Rattle.std.proofs.Common.{ap, ◌∙◌, arith}
use Rattle.std.proofs.lemmas.Slice.Eq.{bytes_eq-Decides}
use Rattle.std.proofs.lemmas.List.{get_or-take, length-take-le}
use Rattle.std.proofs.lemmas.Bool.{and_from, eq-eqb, le-leb}
use Rattle.attest.specs.Laws.{Laws}
use Rattle.attest.specs.Parts.{part_bytes, pair_part, pair_tag, part_at}
use Rattle.attest.specs.PartLaws.{length_tag, part_of_tag}
use Rattle.attest.specs.PairKeys.{pair_accepts, own_tag, AcceptedByReceivers}
use Rattle.attest.specs.declared.pair_keys.PairKeys.{PairKeys}

pub accepted_by_receivers : AcceptedByReceivers
accepted_by_receivers keys words p signer low long shared =
    let right : part_at p.owner (pair_tag keys words) ≡ pair_part words (slice_index_or p.receiving signer []) =
    part_of_tag keys words p.owner p.member (omega (arith, p.among)) ∙ ap (pair_part words) shared in
    let wide : length (pair_tag keys words) ≡ part_bytes * p.group.number = length_tag keys words ∙ ap (λ (n : ℕ). part_bytes * n) long in
    and_from _ _ (le-leb signer p.group.number low) (and_from _ _ (eq-eqb _ _ wide) ((bytes_eq-Decides _ _).1 right))

-- the keys with which a member signs are as many as the members
own_keys : (p : PairKeys) → length (take p.group.number p.sending) ≡ p.group.number
own_keys p = length-take-le p.group.number p.sending p.rows

-- and the one for itself is the one that it has for its own tags
own_key : (p : PairKeys) → slice_index_or (take p.group.number p.sending) (p.owner - 1) [] ≡ slice_index_or p.receiving p.owner []
own_key p = get_or-take p.group.number p.sending (p.owner - 1) [] (omega (arith, p.member, p.among)) ∙ p.paired

pub pair_laws : Laws part_bytes 0 (λ (p : PairKeys). p.owner) (λ p. p.group.number) pair_accepts (λ p words. true) own_tag (λ p words. p)
pair_laws = record {
  narrow = λ n h. omega arith;
  few = λ p. p.group.few;
  owner_stays = λ p w. refl;
  members_stay = λ p w. refl;
  tag_width = λ p w. omega (arith, length_tag (take p.group.number p.sending) w, own_keys p);
  given_accepted = λ p w ok. accepted_by_receivers (take p.group.number p.sending) w p p.owner p.among (own_keys p) (own_key p);
  accepted_stays = λ p w ok s said tag good. good;
}
