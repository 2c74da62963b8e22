-- The rows of a picture: the number of the step, the clock, and the entry in words; and those of entries
-- that cannot happen next, with the cause against them (profile).
use Rattle.std.specs.Prelude.{ℕ, ◌+◌, ◌-◌, ◌/◌, ◌%◌, ◌==◌, List, [], ◌∷◌, ◌++◌, length, codes, decimal, slice_get, if◌then◌else◌}
use Rattle.std.specs.List.{flat_map}
use Rattle.std.specs.Option.{option_map_or}
use Rattle.exercise_model.specs.declared.cause.Cause.{Cause}
use Rattle.exercise_model.specs.Recording.{PlainRecording}
use Rattle.exercise_model.specs.History.{station_at}
use Rattle.exercise_model.specs.Numbers.{cause_number, cause_text}
use Rattle.exercise_chart.specs.Clock.{clock_text}
use Rattle.exercise_chart.specs.declared.clock.ClockUnit.{ClockUnit}
use Rattle.exercise_chart.specs.declared.blocked.BlockedRow.{BlockedRow}
use Rattle.exercise_chart.specs.declared.row.Row.{Row}
use Rattle.siman_print.specs.declared.spelling.Spelling.TheVariants.{Text}
use Rattle.siman_print.specs.Below.{texts_below}
use Rattle.siman_print.specs.Line.{Number, Word, Bare, Keyed}
use Rattle.siman_print.specs.Spelled.{address_text, field_text, fields_spelled}
use Rattle.exercise_chart.specs.declared.frame.TheConstants.{BLOCK}
use Rattle.exercise_chart.specs.Element.{element_text, begun_words, words_text, number, word}
use Rattle.exercise_chart.specs.Frame.{FrameData, rows_x, step_x, clock_x, words_x, rows_shown, step_y, blocked_y}
use Rattle.exercise_chart.specs.Words.{activity_words}

-- the horizontal rule, at height y, that leads to the step and the words of a row
unfoldable pub rule_text : FrameData → (y : ℕ) → List ℕ
rule_text f y =
    element_text (codes "line")
    (number (codes "x1") 16 ∷ number (codes "y1") y ∷ number (codes "x2") (rows_x f - 8) ∷ number (codes "y2") y ∷ word (codes "stroke") (codes "#e2e8f0") ∷ [])

-- the number of a step, as `from=` and `to=` count steps, at height y
unfoldable pub step_text : FrameData → (y step : ℕ) → List ℕ
step_text f y step =
    words_text (number (codes "x") (step_x f) ∷ number (codes "y") y ∷ word (codes "text-anchor") (codes "end") ∷ []) (decimal step)

-- the time of day of an entry
abbrev pub clock_words : FrameData → (y : ℕ) → Row → ClockUnit → List ℕ
clock_words f y row unit =
    words_text (number (codes "x") (clock_x f) ∷ number (codes "y") y ∷ word (codes "class") (codes "clock")
    ∷ number (codes "data-entry") row.at.entry ∷ number (codes "data-stamp") row.stamp ∷ []) (clock_text unit row.stamp)

-- the time of day of an entry, in the row at height y, if the picture has a clock
unfoldable pub row_clock_text : FrameData → (y : ℕ) → Row → List ℕ
row_clock_text f y row = option_map_or (λ unit. clock_words f y row unit) f.clock []

-- ENTRY ADDRESS, and what the station did
unfoldable pub row_words : PlainRecording → Row → List ℕ
row_words r row =
    field_text (Bare (codes "entry") (Number row.at.entry))
    ++ fields_spelled Text (Bare (codes "address") (Word (address_text (station_at r row.at.station).address)) ∷ [])
    ++ activity_words (station_at r row.at.station).address row.did

-- the rows of a block make a group of their own, which begins before its first row and has the
-- number of the block in its name: a sheet shows it
unfoldable pub block_begin : (number : ℕ) → List ℕ
block_begin n = if n % BLOCK == 0 then codes "</g>\n<g id=\"rows" ++ decimal (n / BLOCK) ++ codes "\" fill=\"#1f2933\">\n" else []

-- A ROW: its rule, its step, its clock, and its words, which carry the row's attributes
abbrev pub row_text : FrameData → PlainRecording → Row → List ℕ
row_text f r row =
    block_begin (row.at.step - f.rows.first) ++ rule_text f (step_y f row.at.step) ++ step_text f (step_y f row.at.step + 4) row.at.step ++ row_clock_text f (step_y f row.at.step + 4) row
    ++ begun_words (number (codes "x") (words_x f) ∷ number (codes "y") (step_y f row.at.step + 4) ∷ word (codes "class") (codes "row")
    ∷ number (codes "data-step") row.at.step ∷ number (codes "data-entry") row.at.entry ∷ [])
    ++ row_words r row ++ codes "</text>\n"

-- cause=NUMBER NAME
unfoldable pub cause_words : Cause → List ℕ
cause_words cause =
    fields_spelled Text (Keyed (codes "cause") (Number (cause_number cause)) ∷ []) ++ codes " " ++ cause_text cause

-- THE n-TH BLOCKED ROW, from 0: its rule, its clock, and its words with the cause; it has no step
abbrev pub blocked_text : FrameData → PlainRecording → (n : ℕ) → BlockedRow → List ℕ
blocked_text f r n b =
    block_begin (rows_shown f + n) ++ rule_text f (blocked_y f n) ++ row_clock_text f (blocked_y f n + 4) b.row
    ++ begun_words (number (codes "x") (words_x f) ∷ number (codes "y") (blocked_y f n + 4) ∷ word (codes "fill") (codes "#dc2626")
    ∷ word (codes "class") (codes "blocked") ∷ number (codes "data-entry") b.row.at.entry ∷ number (codes "data-cause") (cause_number b.cause) ∷ [])
    ++ row_words r b.row ++ cause_words b.cause ++ codes "</text>\n"

-- the blocked row with a number
abbrev pub blocked_at : FrameData → PlainRecording → List BlockedRow → (n : ℕ) → List ℕ
blocked_at f r blocked n = option_map_or (blocked_text f r n) (slice_get blocked n) []

-- ALL BLOCKED ROWS
unfoldable pub blocked_rows_text : FrameData → PlainRecording → List BlockedRow → List ℕ
blocked_rows_text f r blocked = texts_below (blocked_at f r blocked) (length blocked)

-- THE ROWS of the shown steps, and behind them the blocked ones
unfoldable pub rows_text : FrameData → PlainRecording → List Row → List BlockedRow → List ℕ
rows_text f r rows blocked = codes "<g>\n" ++ flat_map (row_text f r) rows ++ blocked_rows_text f r blocked ++ codes "</g>\n"
