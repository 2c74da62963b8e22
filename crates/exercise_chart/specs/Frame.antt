-- Places of the parts of a picture, as whole numbers (SVG units) from its upper left corner
-- (profile).
use Rattle.std.specs.Prelude.{ℕ, ◌+◌, ◌-◌, ◌*◌, ◌/◌, min, List, [], nat_lt, Option, Some, None, slice_index_or, if◌then◌else◌}
use Rattle.std.specs.Option.{option_map_or}
use Rattle.exercise_model.specs.declared.station.TheConstants.{MOST_STATIONS}
use Rattle.exercise_chart.specs.declared.bar.TheConstants.{MOST_ENTITIES}
use Rattle.exercise_chart.specs.declared.clock.ClockUnit.{ClockUnit}
use Rattle.exercise_chart.specs.declared.clock.ClockUnit.TheVariants as units
use Rattle.exercise_chart.specs.declared.marks.TheConstants.{MOST_ROWS}
use Rattle.exercise_chart.specs.declared.point.Point.{Point}
use Rattle.exercise_chart.specs.declared.point.Rows.{Rows}
use Rattle.exercise_chart.specs.declared.frame.TheConstants.{LEFT, TOP, ROW, BLOCK}

-- WHAT ALL PLACES DEPEND ON: the shown steps; the number of stations, the column of each that is kept,
-- and the number of columns; the clock; and the number of blocked rows
pub record FrameData : Type 0 where
  pub rows : Rows
  pub stations : ℕ
  pub columns : List (Option ℕ)
  pub kept : ℕ
  pub clock : Option ClockUnit
  pub blocked : ℕ

-- ---- from left to right

-- the column of station s, if it is kept
abbrev pub column_at : FrameData → (s : ℕ) → Option ℕ
column_at f s = slice_index_or f.columns s None

-- what is drawn of station s in its column: nothing if the station is not kept
abbrev pub in_column : FrameData → (s : ℕ) → (text : ℕ → List ℕ) → List ℕ
in_column f s text = option_map_or text (column_at f s) []

-- THE MIDDLE OF A COLUMN
unfoldable pub column_x : (column : ℕ) → ℕ
column_x c = LEFT + 108 * c

-- the left end of the rows' steps and words: the place of one more column
abbrev pub rows_x : FrameData → ℕ
rows_x f = column_x f.kept

-- the right end of the steps' numbers
abbrev pub step_x : FrameData → ℕ
step_x f = rows_x f + 48

-- the left end of the clocks
abbrev pub clock_x : FrameData → ℕ
clock_x f = step_x f + 12

-- the width of the column of clocks, which only a picture with a clock has
abbrev pub clock_width : Option ClockUnit → ℕ
clock_width (Some units.Microsecond) = 116
clock_width (Some units.Millisecond) = 92
clock_width (Some units.Second) = 68
clock_width None = 0

-- the left end of the words of the rows
abbrev pub words_x : FrameData → ℕ
words_x f = clock_x f + clock_width f.clock

unfoldable pub width_of : FrameData → ℕ
width_of f = words_x f + 540

-- THE MIDDLE OF A BAR in a slot of a column
unfoldable pub slot_x : (column slot : ℕ) → ℕ
slot_x c slot = column_x c + 12 * min slot MOST_ENTITIES

-- ---- from above to below

-- the number of rows of steps
abbrev pub rows_shown : FrameData → ℕ
rows_shown f = min (f.rows.end - f.rows.first) MOST_ROWS

-- the number of all drawn rows: behind those of steps stand the blocked ones
abbrev pub rows_drawn : FrameData → ℕ
rows_drawn f = rows_shown f + min f.blocked MOST_STATIONS

-- THE HEIGHT OF A ROW by its number among the drawn rows, from 0: station names take one row before
-- each 36
unfoldable pub row_y : ℕ → ℕ
row_y n = TOP + ROW * (n + n / BLOCK + 1)

-- THE HEIGHT OF THE STATION NAMES above a block of rows
unfoldable pub names_y : ℕ → ℕ
names_y b = TOP + 4 + ROW * (BLOCK + 1) * b

-- how many times the station names are drawn
abbrev pub blocks_of : FrameData → ℕ
blocks_of f = rows_drawn f / BLOCK + 1

-- the upper and the lower end of the columns
abbrev pub top_y : ℕ
top_y = TOP + 10

abbrev pub bottom_y : FrameData → ℕ
bottom_y f = row_y (rows_drawn f)

unfoldable pub height_of : FrameData → ℕ
height_of f = bottom_y f + 24

-- THE HEIGHT OF STEP k: of its row, or of the edge beyond which it lies
unfoldable pub step_y : FrameData → (k : ℕ) → ℕ
step_y f k = if nat_lt k f.rows.first then top_y else if nat_lt k f.rows.end then row_y (min (k - f.rows.first) MOST_ROWS) else bottom_y f

-- THE HEIGHT OF THE n-TH BLOCKED ROW, from 0
unfoldable pub blocked_y : FrameData → (n : ℕ) → ℕ
blocked_y f n = row_y (rows_shown f + min n MOST_STATIONS)

-- the upper and the lower end of a bar
unfoldable pub since_y : FrameData → Option Point → ℕ
since_y f (Some change) = step_y f change.step
since_y f None = top_y

unfoldable pub until_y : FrameData → Option Point → ℕ
until_y f (Some change) = step_y f change.step
until_y f None = bottom_y f
