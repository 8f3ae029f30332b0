-- Tags under pair keys.
use Rattle.std.specs.Prelude.{ℕ, ◌-◌, ◌*◌, List, take}
use Rattle.std.specs.List.{between, flat_map}
use Rattle.digest.specs.Hmac.{authentication}

-- the bytes of one receiver's part of a tag
abbrev pub part_bytes : ℕ
part_bytes = 16

-- one receiver's part: the first bytes of the code of the words under the key of signer and receiver
abbrev pub pair_part : List ℕ → List ℕ → List ℕ
pair_part words key = take part_bytes (authentication key words)

-- the parts of the receivers 1, 2 and on, under the keys that the signer shares with them
abbrev pub pair_tag : List (List ℕ) → List ℕ → List ℕ
pair_tag keys words = flat_map (pair_part words) keys

-- part k of a tag, from 1
abbrev pub part_at : ℕ → List ℕ → List ℕ
part_at k tag = between (part_bytes * (k - 1)) (part_bytes * k) tag
