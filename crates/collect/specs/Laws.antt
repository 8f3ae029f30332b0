-- What the entries that are built at a threshold come to.
use Rattle.std.specs.Prelude.{◌≡◌, ℕ, ◌+◌, ◌<◌, ◌≤◌, Bool, true, List, [], ◌∷◌, map, length, take, Ok, Option}
use Rattle.std.specs.List.{flat_map, AllByRecursion}
use Rattle.attest.specs.Limits.{tag_room}
use Rattle.digest.specs.Bytes.{number16}
use Rattle.coin.specs.declared.shares.Share.{Share}
use Rattle.tally.specs.Laws.{Kept}
use Rattle.tally.specs.Puts.{put_to, judged}
use Rattle.wire.specs.Entries.{Entry, entries_of, entries_formed, within}
use Rattle.wire.specs.Layouts.{entry_bytes}
use Rattle.collect.specs.declared.items.KeptVote.{KeptVote}
use Rattle.collect.specs.declared.items.KeptTimeout.{KeptTimeout}
use Rattle.collect.specs.declared.items.KeptShare.{KeptShare}
use Rattle.collect.specs.Items.{kept, share_alike, vote_tail, timeout_tail, share_tail, built}
use Rattle.collect.specs.Build.{kept_shares}

-- the signers are above `low` and at most n, and rise strictly
abbrev pub Rising : ℕ → ℕ → List Entry → Type 0
Rising n low [] = Unit {0}
Rising n low (e ∷ es) = (low < e.signer) × (e.signer ≤ n) × Rising n e.signer es

-- entries as a certificate of n members has them: as many as the threshold, of rising members of 1 to n, each with a tail of `wide` bytes
pub record Sound (n threshold wide : ℕ) (es : List Entry) : Type 0 where
  pub many : length es ≡ threshold
  pub rising : Rising n 0 es
  pub tails : AllByRecursion (λ e. length e.tail ≡ wide) es

-- where a put reaches the threshold, what is then built is sound, if what the places then keep has tails of `wide` bytes
abbrev pub ReachedIsSound : {T : Type 0} → (T → T → Bool) → (T → T → Bool) → Type 0
ReachedIsSound {T} above alike =
    (tail : T → List ℕ) (wide : ℕ) (places : List (Option T)) (i : ℕ) (x : T) (threshold : ℕ) → judged above alike places i x threshold ≡ Ok true → ((k : ℕ) (y : T) → Kept (put_to above places i x) k y → length (tail y) ≡ wide) → Sound (length places) threshold wide (built alike tail x (put_to above places i x))

-- sound entries are read back from their bytes, and have the form that a reader asks for; their values within the limit, where there is one
abbrev pub SoundIsRead : Type 0
SoundIsRead =
    (n threshold wide : ℕ) (limit : Option ℕ) (es : List Entry) → Sound n threshold wide es → AllByRecursion (λ e. within limit (number16 e.tail 0) ≡ true) es → (entries_of wide threshold (flat_map entry_bytes es) ≡ es) × (entries_formed n limit wide threshold 0 (flat_map entry_bytes es) ≡ true)

-- a tag that has room is kept whole, and the tails of items whose tags have `width` bytes or more are as long as the form says
pub record Tails : Type 0 where
  pub tags : (tag : List ℕ) → length tag ≤ tag_room → take (length tag) (kept tag) ≡ tag
  pub votes : (width : ℕ) (x : KeptVote) → width ≤ length x.tag → length (vote_tail width x) ≡ width
  pub timeouts : (width : ℕ) (x : KeptTimeout) → width ≤ length x.tag → length (timeout_tail width x) ≡ width
  pub shares : (width : ℕ) (x : KeptShare) → width ≤ length x.tag → length (share_tail width x) ≡ 2 + width

-- what an entry of a coin certificate says of its member's share
abbrev pub share_in : Entry → Share
share_in e = record { member = e.signer; value = number16 e.tail 0 }

-- the coin certificate that is built says of each kept share what the shares to elect from say; a value has two bytes
abbrev pub SameShares : Type 0
SameShares =
    (width : ℕ) (x : KeptShare) (places : List (Option KeptShare)) → ((k : ℕ) (y : KeptShare) → Kept places k y → y.value < 65536) → map share_in (built share_alike (share_tail width) x places) ≡ kept_shares x places
