-- The text sheet: ten lines of a key and its value.
use Rattle.std.specs.Prelude.{ℕ, Bool, cond, ◌&&◌, List, ◌++◌, length, Ok, Err, codes, decimal, Result, ◌==◌}
use Rattle.blocks.specs.declared.rank.Rank.{Rank}
use Rattle.blocks.specs.Layout.{overlay}
use Rattle.blocks.specs.Ranks.{kind_number}
use Rattle.blocks.specs.Statements.{rank_of}
use Rattle.table.specs.declared.held.Held.{Held}
use Rattle.table.specs.Committed.{committed_count}
use Rattle.member.specs.declared.state.Member.{Member}
use Rattle.member.specs.declared.types.Refusal.{Refusal}
use Rattle.member.specs.declared.types.Refusal.TheVariants.{Sizes}
use Rattle.member.specs.declared.types.Stage.{Stage}
use Rattle.member.specs.declared.types.Stage.TheVariants.{Steady, TimedOut, InFallback}
use Rattle.member.specs.Entry.{table_fits}

-- the bytes of the sheet's buffer
abbrev pub sheet_bytes : ℕ
sheet_bytes = 256

abbrev pub stage_word : Stage → List ℕ
stage_word Steady = codes "steady"
stage_word TimedOut = codes "timedout"
stage_word InFallback = codes "fallback"

-- view, kind and round
unfoldable pub rank_text : Rank → List ℕ
rank_text r = decimal r.view.0 ++ codes "," ++ decimal (kind_number r.kind) ++ codes "," ++ decimal r.round.0

-- key=value and a newline
unfoldable pub line : List ℕ → List ℕ → List ℕ
line key value = key ++ codes "=" ++ value ++ codes "\n"

unfoldable pub sheet_text : Member → List Held → List ℕ
sheet_text m table =
    line (codes "member") (decimal m.site.own)
    ++ line (codes "members") (decimal m.site.members)
    ++ line (codes "view") (decimal m.phase.view.0)
    ++ line (codes "stage") (stage_word m.phase.stage)
    ++ line (codes "round") (decimal m.chain.round.0)
    ++ line (codes "voted") (decimal m.phase.voted.0)
    ++ line (codes "lock") (rank_text m.chain.lock)
    ++ line (codes "high") (rank_text (rank_of m.chain.high))
    ++ line (codes "blocks") (decimal m.held)
    ++ line (codes "committed") (decimal (committed_count table m.chain.last))

-- the table is as long as at set up, and the buffer has its 256 bytes
abbrev pub sheet_fits : Member → List Held → List ℕ → Bool
sheet_fits m table out = table_fits m table && length out == sheet_bytes

-- what the call answers: the length of the text
abbrev pub sheet : Member → List Held → List ℕ → Result ℕ Refusal
sheet m table out = cond (sheet_fits m table out) (Ok (length (sheet_text m table))) (Err Sizes)

-- the buffer that it leaves: the text at its start, all else as it was
abbrev pub sheet_out : Member → List Held → List ℕ → List ℕ
sheet_out m table out = cond (sheet_fits m table out) (overlay out (sheet_text m table)) out
