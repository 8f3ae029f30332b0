-- Pair keys as an attestor.
use Rattle.std.specs.Prelude.{◌≡◌, ℕ, ◌+◌, ◌-◌, ◌*◌, ◌≤◌, Bool, true, cond, ◌&&◌, List, [], ◌++◌, length, take, replicate, Some, None, Option, ◌==◌, nat_le, slice_index_or}
use Rattle.std.specs.Str.{bytes_eq}
use Rattle.attest.specs.Limits.{max_members}
use Rattle.attest.specs.Parts.{part_bytes, pair_part, pair_tag, part_at}
use Rattle.attest.specs.declared.pair_keys.PairKeys.{PairKeys}

-- a member's number and its keys: as signer with the receivers 1 to n, and as receiver with the signers 0 to n
pub record Keys : Type 0 where
  pub owner : ℕ
  pub sending : List (List ℕ)
  pub receiving : List (List ℕ)

abbrev pub keys_of : PairKeys → Keys
keys_of p = record {
  owner = p.owner;
  sending = take p.group.number p.sending;
  receiving = take (p.group.number + 1) p.receiving;
}

-- the places of a row: one for each member of the largest group, and one for the dealer
abbrev pub key_room : ℕ
key_room = max_members + 1

-- zeros where a row has no key
abbrev pub padded : List (List ℕ) → List (List ℕ)
padded keys = keys ++ replicate (key_room - length keys) (replicate 32 0)

-- the rows are those of a member, and have one key for the pair of the member with itself
abbrev pub fit : ℕ → List (List ℕ) → List (List ℕ) → Bool
fit owner sending receiving =
    nat_le (length sending) max_members && (length receiving == length sending + 1
    && (nat_le 1 owner && (nat_le owner (length sending) && bytes_eq (slice_index_or sending (owner - 1) []) (slice_index_or receiving owner []))))

abbrev pub given_keys : ℕ → List (List ℕ) → List (List ℕ) → Option Keys
given_keys owner sending receiving =
    cond (fit owner sending receiving) (Some (record { owner = owner; sending = sending; receiving = receiving })) None

-- the tag has 16 bytes for each member, and the owner's part is right for the words under the key of signer and owner
abbrev pub pair_accepts : PairKeys → ℕ → List ℕ → List ℕ → Bool
pair_accepts p signer words tag =
    nat_le signer p.group.number && (length tag == part_bytes * p.group.number
    && bytes_eq (part_at p.owner tag) (pair_part words (slice_index_or p.receiving signer [])))

abbrev pub own_tag : PairKeys → List ℕ → List ℕ
own_tag p words = pair_tag (take p.group.number p.sending) words

-- a tag under a signer's keys is accepted as that signer's by each member that shares the key at its own place
abbrev pub AcceptedByReceivers : Type 0
AcceptedByReceivers =
    (keys : List (List ℕ)) (words : List ℕ) (p : PairKeys) (signer : ℕ) → signer ≤ p.group.number → length keys ≡ p.group.number
    → slice_index_or keys (p.owner - 1) [] ≡ slice_index_or p.receiving signer [] → pair_accepts p signer words (pair_tag keys words) ≡ true
