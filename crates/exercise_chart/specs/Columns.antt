-- The columns of a picture, one for each station that is kept, and the names above them and above the
-- rows (profile).
use Rattle.std.specs.Prelude.{ℕ, List, [], ◌∷◌, ◌++◌, codes, decimal}
use Rattle.std.specs.Option.{option_map_or}
use Rattle.exercise_model.specs.Recording.{PlainRecording}
use Rattle.exercise_model.specs.History.{station_at}
use Rattle.siman_print.specs.Spelled.{address_text}
use Rattle.siman_print.specs.Below.{texts_below}
use Rattle.exercise_chart.specs.declared.clock.ClockUnit.{ClockUnit}
use Rattle.exercise_chart.specs.declared.frame.TheConstants.{TOP}
use Rattle.exercise_chart.specs.Element.{element_text, words_text, number, word}
use Rattle.exercise_chart.specs.Frame.{FrameData, in_column, column_x, step_x, clock_x, words_x, bottom_y, names_y, blocks_of}

-- the line of a column
abbrev pub column_text : FrameData → (column : ℕ) → List ℕ
column_text f c =
    element_text (codes "line")
    (number (codes "x1") (column_x c) ∷ number (codes "y1") TOP ∷ number (codes "x2") (column_x c) ∷ number (codes "y2") (bottom_y f) ∷ [])

-- THE LINES OF THE COLUMNS, with which the group of all lines begins
unfoldable pub columns_text : FrameData → List ℕ
columns_text f = codes "<g id=\"lines\">\n<g stroke=\"#94a3b8\">\n" ++ texts_below (column_text f) f.kept ++ codes "</g>\n"

-- the name of station s above its column, at a height
abbrev pub name_words : PlainRecording → (y s column : ℕ) → List ℕ
name_words r y s c = words_text (number (codes "x") (column_x c) ∷ number (codes "y") y ∷ []) (address_text (station_at r s).address)

-- the name of station s at a height, if it is kept
abbrev pub name_text : FrameData → PlainRecording → (y s : ℕ) → List ℕ
name_text f r y s = in_column f s (name_words r y s)

-- the name of the steps, at a height
unfoldable pub step_name : FrameData → (y : ℕ) → List ℕ
step_name f y =
    words_text (number (codes "x") (step_x f) ∷ number (codes "y") y ∷ word (codes "text-anchor") (codes "end") ∷ []) (codes "step")

-- the name of the clocks, at a height, if the picture has a clock
abbrev pub clock_name_words : FrameData → (y : ℕ) → List ℕ
clock_name_words f y =
    words_text (number (codes "x") (clock_x f) ∷ number (codes "y") y ∷ word (codes "text-anchor") (codes "start") ∷ []) (codes "UTC")

unfoldable pub clock_name : FrameData → (y : ℕ) → List ℕ
clock_name f y = option_map_or (λ (unit : ClockUnit). clock_name_words f y) f.clock []

-- the name of the entries, at a height
unfoldable pub entry_name : FrameData → (y : ℕ) → List ℕ
entry_name f y =
    words_text (number (codes "x") (words_x f) ∷ number (codes "y") y ∷ word (codes "text-anchor") (codes "start") ∷ []) (codes "entry")

-- the names of all stations at a height
unfoldable pub station_names : FrameData → PlainRecording → (y : ℕ) → List ℕ
station_names f r y = texts_below (name_text f r y) f.stations

-- all names at a height
abbrev pub names_at : FrameData → PlainRecording → (y : ℕ) → List ℕ
names_at f r y = station_names f r y ++ step_name f y ++ clock_name f y ++ entry_name f y

-- the names above a block of rows make a group of their own, which has the number of the block in
-- its name: a sheet shows it
abbrev pub names_begin : (block : ℕ) → List ℕ
names_begin b =
    codes "<g id=\"names" ++ decimal b
    ++ codes "\" fill=\"#1f2933\" stroke=\"#ffffff\" stroke-width=\"4\" paint-order=\"stroke\" font-weight=\"bold\" text-anchor=\"middle\">\n"

unfoldable pub names_above : FrameData → PlainRecording → (block : ℕ) → List ℕ
names_above f r b = names_begin b ++ names_at f r (names_y b) ++ codes "</g>\n"

-- THE NAMES of the stations, the steps, the clocks and the entries, above each block of rows
unfoldable pub names_text : FrameData → PlainRecording → List ℕ
names_text f r = texts_below (names_above f r) (blocks_of f)
