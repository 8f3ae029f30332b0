-- The numbers of the refusals, and what stages are.
use Rattle.std.specs.Prelude.{ℕ, Bool, true, false}
use Rattle.member.specs.declared.types.Refusal.{Refusal}
use Rattle.member.specs.declared.types.Refusal.TheVariants.{Sizes, Form, Ahead, Past, BlockRule, NotHeld, Tag, NotEndorsed, Counted, Collector, OutOfStage, NoRoom, Ended, Fork, Sheet, Unsigned}
use Rattle.member.specs.declared.types.Stage.{Stage}
use Rattle.member.specs.declared.types.Stage.TheVariants.{Steady, TimedOut, InFallback}

abbrev pub refusal_number : Refusal → ℕ
refusal_number Sizes = 1
refusal_number Form = 2
refusal_number Ahead = 3
refusal_number Past = 4
refusal_number BlockRule = 5
refusal_number NotHeld = 6
refusal_number Tag = 7
refusal_number NotEndorsed = 8
refusal_number Counted = 9
refusal_number Collector = 10
refusal_number OutOfStage = 11
refusal_number NoRoom = 12
refusal_number Ended = 13
refusal_number Fork = 14
refusal_number Sheet = 15
refusal_number Unsigned = 16

abbrev pub is_steady : Stage → Bool
is_steady Steady = true
is_steady TimedOut = false
is_steady InFallback = false

abbrev pub is_in_fallback : Stage → Bool
is_in_fallback Steady = false
is_in_fallback TimedOut = false
is_in_fallback InFallback = true
