-- What is built of the kept items that are alike to a given one.
use Rattle.std.specs.Prelude.{ℕ, ◌+◌, Bool, cond, ◌&&◌, List, ◌++◌, map, length, drop, Some, None, Option, nat_le}
use Rattle.std.specs.List.{flat_map}
use Rattle.attest.specs.Limits.{tag_room}
use Rattle.blocks.specs.Layout.{fits, pasted}
use Rattle.coin.specs.declared.shares.Share.{Share}
use Rattle.tally.specs.Walk.{kept_alike}
use Rattle.wire.specs.Layouts.{entry_bytes, certificate_bytes}
use Rattle.collect.specs.declared.items.KeptVote.{KeptVote}
use Rattle.collect.specs.declared.items.KeptShare.{KeptShare}
use Rattle.collect.specs.Items.{vote_alike, vote_tail, share_alike, built}

-- the most places: a member's number is its place + 1 and has one byte
abbrev pub places_most : ℕ
places_most = 255

-- the most bytes that follow the member in an entry: a share's value and the longest tag
abbrev pub tail_most : ℕ
tail_most = 2 + tag_room

-- each place has a number
abbrev pub numbered : {T : Type 0} → List (Option T) → Bool
numbered places = nat_le (length places) places_most

-- bytes are written at a place of a buffer if each place has a number and they have room: where they end ..
abbrev pub end_at : {T : Type 0} → List (Option T) → List ℕ → ℕ → List ℕ → Option ℕ
end_at places out at bytes = cond (numbered places && fits out at bytes) (Some (at + length bytes)) None

-- .. and the buffer then, which else stays as it was
abbrev pub written_at : {T : Type 0} → List (Option T) → List ℕ → ℕ → List ℕ → List ℕ
written_at places out at bytes = cond (numbered places && fits out at bytes) (pasted out at bytes) out

-- the same at a buffer's start, for bytes or shares: how many they are, and the buffer then
abbrev pub count_at_start : {T X : Type 0} → List (Option T) → List X → List X → Option ℕ
count_at_start places out xs = cond (numbered places && nat_le (length xs) (length out)) (Some (length xs)) None

abbrev pub written_at_start : {T X : Type 0} → List (Option T) → List X → List X → List X
written_at_start places out xs = cond (numbered places && nat_le (length xs) (length out)) (xs ++ drop (length xs) out) out

-- the entries of the kept items that are alike to x, as bytes
abbrev pub built_bytes : {T : Type 0} → (T → T → Bool) → (T → List ℕ) → T → List (Option T) → List ℕ
built_bytes alike tail x places = flat_map entry_bytes (built alike tail x places)

-- the certificate of the kept votes that say the same as x, with tags of `width` bytes
abbrev pub certificate_of : ℕ → KeptVote → List (Option KeptVote) → List ℕ
certificate_of width x places = certificate_bytes x.statement (built vote_alike (vote_tail width) x places)

-- a kept share as the coin takes it
abbrev pub share_at : ℕ × KeptShare → Share
share_at k = record { member = k.0 + 1; value = k.1.value }

-- the kept shares of x's view, by rising member
abbrev pub kept_shares : KeptShare → List (Option KeptShare) → List Share
kept_shares x places = map share_at (kept_alike share_alike x places 0)
