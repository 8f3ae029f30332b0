-- The items of the four tallies: when one ranks above another, when two are alike, and what each adds to a certificate.
use Rattle.std.specs.Prelude.{ℕ, ◌+◌, Bool, cond, List, [], ◌∷◌, ◌++◌, take, replicate, Some, None, Option, ◌==◌, nat_lt}
use Rattle.attest.specs.Limits.{tag_room}
use Rattle.blocks.specs.Layout.{fits, pasted}
use Rattle.digest.specs.Bytes.{bytes16}
use Rattle.blocks.specs.declared.rank.View.{View}
use Rattle.blocks.specs.Ranks.{less_rank}
use Rattle.blocks.specs.Sameness.{same_statement}
use Rattle.blocks.specs.Statements.{rank_of}
use Rattle.tally.specs.Walk.{kept_alike}
use Rattle.wire.specs.Entries.{Entry}
use Rattle.collect.specs.declared.items.KeptVote.{KeptVote}
use Rattle.collect.specs.declared.items.KeptTimeout.{KeptTimeout}
use Rattle.collect.specs.declared.items.Finished.{Finished}
use Rattle.collect.specs.declared.items.KeptShare.{KeptShare}

-- votes rank as their blocks and are alike if they say the same
abbrev pub vote_above : KeptVote → KeptVote → Bool
vote_above x y = less_rank (rank_of y.statement) (rank_of x.statement)

abbrev pub vote_alike : KeptVote → KeptVote → Bool
vote_alike x y = same_statement x.statement y.statement

-- all others rank by view, and are alike at equal views
abbrev pub later : View → View → Bool
later v w = nat_lt w.0 v.0

abbrev pub same_view : View → View → Bool
same_view v w = v.0 == w.0

abbrev pub timeout_above : KeptTimeout → KeptTimeout → Bool
timeout_above x y = later x.view y.view

abbrev pub timeout_alike : KeptTimeout → KeptTimeout → Bool
timeout_alike x y = same_view x.view y.view

abbrev pub finished_above : Finished → Finished → Bool
finished_above x y = later x.view y.view

abbrev pub finished_alike : Finished → Finished → Bool
finished_alike x y = same_view x.view y.view

abbrev pub share_above : KeptShare → KeptShare → Bool
share_above x y = later x.view y.view

abbrev pub share_alike : KeptShare → KeptShare → Bool
share_alike x y = same_view x.view y.view

-- a tag at the start of the room of the longest, 208 bytes; one that is longer is not kept
abbrev pub kept : List ℕ → List ℕ
kept tag = cond (fits (replicate tag_room 0) 0 tag) (pasted (replicate tag_room 0) 0 tag) (replicate tag_room 0)

-- what follows the member in an entry, with tags of `width` bytes
abbrev pub vote_tail : ℕ → KeptVote → List ℕ
vote_tail width x = take width x.tag

abbrev pub timeout_tail : ℕ → KeptTimeout → List ℕ
timeout_tail width x = take width x.tag

abbrev pub share_tail : ℕ → KeptShare → List ℕ
share_tail width x = bytes16 x.value ++ take width x.tag

-- the same for any item that has a tag and may have a value
abbrev pub value_bytes : Option ℕ → List ℕ
value_bytes None = []
value_bytes (Some value) = bytes16 value

abbrev pub tail_of : {T : Type 0} → (T → Option ℕ) → (T → List ℕ) → ℕ → T → List ℕ
tail_of value tag width x = value_bytes (value x) ++ take width (tag x)

-- an entry for each item of a walk; a member's number is its place + 1
abbrev pub entries_from : {T : Type 0} → (T → List ℕ) → List (ℕ × T) → List Entry
entries_from tail [] = []
entries_from tail (k ∷ ks) = record { signer = k.0 + 1; tail = tail k.1 } ∷ entries_from tail ks

-- the entries of the kept items that are alike to x, by rising place
abbrev pub built : {T : Type 0} → (T → T → Bool) → (T → List ℕ) → T → List (Option T) → List Entry
built alike tail x places = entries_from tail (kept_alike alike x places 0)
