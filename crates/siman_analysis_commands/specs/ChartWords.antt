-- The words of a picture: from=STEP and to=STEP select its steps, clock=UNIT gives it a clock,
-- entity=ID chooses an entity for bars, and station=S:A keeps the column of a station (profile).
use Rattle.std.specs.Prelude.{◌≡◌, ◌==◌, ℕ, ◌+◌, List, [], ◌∷◌, ◌++◌, codes, min, Bool, false, nat_le, nat_lt, Option, Some, None, is_some, option_map, Result, Ok, Err, if◌then◌else◌}
use Rattle.std.specs.Option.{option_map_or}
use Rattle.std.specs.Str.{bytes_eq}
use Rattle.dis_records.specs.declared.address.SiteApplication.{SiteApplication}
use Rattle.dis_records.specs.declared.entity.EntityId.{EntityId}
use Rattle.exercise_model.specs.Recording.{PlainRecording}
use Rattle.exercise_chart.specs.declared.clock.ClockUnit.{ClockUnit}
use Rattle.exercise_chart.specs.declared.clock.ClockUnit.TheVariants as units
use Rattle.exercise_chart.specs.declared.point.Rows.{Rows}
use Rattle.exercise_chart.specs.Kept.{kept_of}
use Rattle.byte_files.specs.Text.{cut_at, number_to, ◌>>=◌}
use Rattle.siman_scripts.specs.Statement.{target_of}
use Rattle.siman_analysis_commands.specs.declared.chart_words.ChartChoice.{ChartChoice}
use Rattle.siman_analysis_commands.specs.declared.chart_words.ChartChoice.TheVariants.{From, To, Clock, Entity, Kept}
use Rattle.siman_analysis_commands.specs.declared.chart_words.Window.{Window}
use Rattle.siman_analysis_commands.specs.FilterWords.{outsider_of}

-- ---- one word

-- `us`, `ms` or `s`: what stamps count
abbrev pub unit_of : List ℕ → Option ClockUnit
unit_of word =
    if bytes_eq word (codes "us") then Some units.Microsecond
    else if bytes_eq word (codes "ms") then Some units.Millisecond
    else if bytes_eq word (codes "s") then Some units.Second
    else None

-- the choice for a key and its value
abbrev pub choice_by : (key word : List ℕ) → Option ChartChoice
choice_by key word =
    if bytes_eq key (codes "from") then option_map From (number_to 4294967295 word)
    else if bytes_eq key (codes "to") then option_map To (number_to 4294967295 word)
    else if bytes_eq key (codes "clock") then option_map Clock (unit_of word)
    else if bytes_eq key (codes "entity") then option_map Entity (target_of word)
    else if bytes_eq key (codes "station") then option_map Kept (outsider_of word)
    else None

-- THE CHOICE THAT A WORD NAMES: `from=STEP`, the first step that is shown, or `to=STEP`, the last; a step has 32 bits, and is decimal with or without leading zeros; `clock=us`, `clock=ms` or `clock=s`, what stamps count; `entity=S:A:E`, an entity that bars are drawn for; `station=S:A`, a station whose column is kept
abbrev pub choice_of : List ℕ → Option ChartChoice
choice_of word = do
  p ← cut_at 61 word
  choice_by p.0 p.1

-- ---- all words

-- no bound is named, and no clock
abbrev pub whole : Window
whole = record { from = None; to = None; clock = None }

-- the first step is after the last
abbrev pub is_turned : Window → Bool
is_turned w = option_map_or (λ from. option_map_or (λ to. nat_lt to from) w.to false) w.from false

abbrev pub unturned : Window → Option Window
unturned w = if is_turned w then None else Some w

-- WITH ONE MORE CHOICE: none if that bound or the clock was named before, or the first step would be after the last; an entity or a station changes no bound
abbrev pub narrowed : Window → ChartChoice → Option Window
narrowed w (From step) = if is_some w.from then None else unturned (record { from = Some step; to = w.to; clock = w.clock })
narrowed w (To step) = if is_some w.to then None else unturned (record { from = w.from; to = Some step; clock = w.clock })
narrowed w (Clock unit) = if is_some w.clock then None else Some (record { from = w.from; to = w.to; clock = Some unit })
narrowed w (Entity id) = Some w
narrowed w (Kept address) = Some w

abbrev pub with_word : Window → List ℕ → Option Window
with_word w word = do
  choice ← choice_of word
  narrowed w choice

-- the bounds and the clock of more words, given those of the words before
abbrev pub window_by : Window → (words : List (List ℕ)) → Result Window (List ℕ)
window_by w [] = Ok w
window_by w (word ∷ words) = option_map_or (λ next. window_by next words) (with_word w word) (Err word)

-- THE BOUNDS AND THE CLOCK THAT WORDS NAME, or the first word that is bad: it names no choice, its key was used before and is neither `entity` nor `station`, or the first step would be after the last
abbrev pub window_of : (words : List (List ℕ)) → Result Window (List ℕ)
window_of words = window_by whole words

-- the entity that a choice is of
abbrev pub entity_in : ChartChoice → List EntityId
entity_in (Entity id) = id ∷ []
entity_in choice = []

abbrev pub entity_named : List ℕ → List EntityId
entity_named word = option_map_or entity_in (choice_of word) []

-- THE ENTITIES THAT WORDS CHOOSE, in the order of the words
abbrev pub entities_of : (words : List (List ℕ)) → List EntityId
entities_of [] = []
entities_of (word ∷ words) = entity_named word ++ entities_of words

-- the address of the station that a choice keeps
abbrev pub station_in : ChartChoice → List SiteApplication
station_in (Kept address) = address ∷ []
station_in choice = []

abbrev pub station_named : List ℕ → List SiteApplication
station_named word = option_map_or station_in (choice_of word) []

-- THE STATIONS WHOSE COLUMNS WORDS KEEP, in the order of the words
abbrev pub stations_of : (words : List (List ℕ)) → List SiteApplication
stations_of [] = []
stations_of (word ∷ words) = station_named word ++ stations_of words

-- a choice is of a station that the recording does not have: it would keep no column
abbrev pub names_unknown : PlainRecording → ChartChoice → Bool
names_unknown r (Kept address) = kept_of r (address ∷ []) == 0
names_unknown r choice = false

-- a word names a station that the recording does not have
abbrev pub is_unknown : PlainRecording → List ℕ → Bool
is_unknown r word = option_map_or (names_unknown r) (choice_of word) false

-- THE FIRST WORD THAT NAMES A STATION THAT THE RECORDING DOES NOT HAVE
abbrev pub unknown_of : PlainRecording → (words : List (List ℕ)) → Option (List ℕ)
unknown_of r [] = None
unknown_of r (word ∷ words) = if is_unknown r word then Some word else unknown_of r words

-- ---- the steps

-- a choice is of a step past the last one
abbrev pub names_past : (steps : ℕ) → ChartChoice → Bool
names_past steps (From step) = nat_le steps step
names_past steps (To step) = nat_le steps step
names_past steps choice = false

-- a word names a step past the last one
abbrev pub is_past : (steps : ℕ) → List ℕ → Bool
is_past steps word = option_map_or (names_past steps) (choice_of word) false

-- THE FIRST WORD THAT NAMES A STEP PAST THE LAST ONE
abbrev pub past_of : (steps : ℕ) → (words : List (List ℕ)) → Option (List ℕ)
past_of steps [] = None
past_of steps (word ∷ words) = if is_past steps word then Some word else past_of steps words

-- the step behind the last one that is shown
abbrev pub end_in : Window → (steps : ℕ) → ℕ
end_in w steps = option_map_or (λ to. min steps (to + 1)) w.to steps

-- the first step that is shown
abbrev pub first_in : Window → (steps : ℕ) → ℕ
first_in w steps = option_map_or (λ from. min (end_in w steps) from) w.from 0

-- THE STEPS THAT ARE SHOWN, of this number of steps
pub record AreShown (w : Window) (steps : ℕ) (rows : Rows) : Type 0 where
  pub first : rows.first ≡ first_in w steps
  pub end : rows.end ≡ end_in w steps
