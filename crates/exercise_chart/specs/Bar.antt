-- The bars of a picture: the states of the stations' entities over the steps (profile).
use Rattle.std.specs.Prelude.{◌≡◌, ℕ, ◌+◌, ◌-◌, ◌<◌, List, [], ◌∷◌, ◌++◌, length, Bool, true, false, ◌&&◌, ◌||◌, nat_lt, nat_le, Some, None, option_map, Result, Ok, Err, if◌then◌else◌}
use Rattle.std.specs.Option.{option_map_or}
use Rattle.dis_records.specs.declared.entity.EntityId.{EntityId}
use Rattle.siman_pdus.specs.Answers.{same_id}
use Rattle.exercise_model.specs.Recording.{PlainRecording}
use Rattle.exercise_review.specs.declared.span.Span.{Span}
use Rattle.exercise_review.specs.Filter.{same_entity}
use Rattle.exercise_review.specs.Span.{spans_of}
use Rattle.exercise_review.specs.Room.{lists_below}
use Rattle.exercise_chart.specs.declared.bar.Bar.{Bar}
use Rattle.exercise_chart.specs.declared.bar.BarSlots.{BarSlots}
use Rattle.exercise_chart.specs.declared.bar.EntityBars.{EntityBars}
use Rattle.exercise_chart.specs.declared.bar.Undrawn.{Undrawn}
use Rattle.exercise_chart.specs.declared.bar.TheConstants.{MOST_ENTITIES, MOST_STRETCHES}
use Rattle.exercise_chart.specs.declared.fault.ChartFault.{ChartFault}
use Rattle.exercise_chart.specs.declared.fault.ChartFault.TheVariants.{OverLimit, Memory}
use Rattle.exercise_chart.specs.Point.{step_of}
use Rattle.exercise_chart.specs.Scene.{SceneData, point_in}

-- a span began in the last row or before it, or lasts from the start
abbrev pub began : SceneData → Span → Bool
began c x = option_map_or (λ i. nat_lt (step_of c.recording c.steps i) c.rows.end) x.from true

-- a span ends in the first row or after it, or never
abbrev pub reaches : SceneData → Span → Bool
reaches c x = option_map_or (λ i. nat_le c.rows.first (step_of c.recording c.steps i)) x.to true

-- an entity is among these
abbrev pub is_among : List EntityId → EntityId → Bool
is_among [] id = false
is_among (x ∷ xs) id = same_entity x id || is_among xs id

-- an entity is chosen: it is among these, or these are none
abbrev pub is_chosen : List EntityId → EntityId → Bool
is_chosen [] id = true
is_chosen (x ∷ xs) id = is_among (x ∷ xs) id

-- A SPAN IS SHOWN
abbrev pub is_shown : SceneData → Span → Bool
is_shown c x = is_chosen c.chosen x.entity && (began c x && reaches c x)

-- no entity has a slot yet
abbrev pub no_slots : BarSlots
no_slots = record { used = 0; last = None }

-- the slots after entity e: unchanged if it has the last slot, else with one more
abbrev pub next_slots : BarSlots → ℕ → BarSlots
next_slots l e = if same_id l.last (Some e) then l else record { used = l.used + 1; last = Some e }

-- the bar of a span of station s, in a slot
abbrev pub bar_of : SceneData → (s slot : ℕ) → Span → Bar
bar_of c s slot x = record {
  station = s;
  slot = slot;
  entity = x.entity;
  state = x.state;
  from = option_map (point_in c) x.from;
  to = option_map (point_in c) x.to;
}

-- the bar of a span, if its entity is among the first MOST_ENTITIES
abbrev pub bars_in : SceneData → (s : ℕ) → BarSlots → Span → List Bar
bars_in c s l x = if nat_le l.used MOST_ENTITIES then bar_of c s (l.used - 1) x ∷ [] else []

-- the bars of spans that are sorted by entity, given the slots used so far
unfoldable pub bars_from : SceneData → (s : ℕ) → BarSlots → List Span → List Bar
bars_from c s l [] = []
bars_from c s l (x ∷ xs) =
    if is_shown c x then bars_in c s (next_slots l x.entity.entity) x ++ bars_from c s (next_slots l x.entity.entity) xs else bars_from c s l xs

-- the slots after spans that are sorted by entity, given the slots used before them
unfoldable pub slots_after : SceneData → BarSlots → List Span → BarSlots
slots_after c l [] = l
slots_after c l (x ∷ xs) = if is_shown c x then slots_after c (next_slots l x.entity.entity) xs else slots_after c l xs

-- the mark of a station n of whose entities have a shown span: how many of them have no bar, if any
abbrev pub undrawn_of : (s n : ℕ) → List Undrawn
undrawn_of s n = if nat_le n MOST_ENTITIES then [] else record { station = s; entities = n - MOST_ENTITIES } ∷ []

-- HOW MANY ENTITIES OF STATION s HAVE A SHOWN SPAN
unfoldable pub entities_shown : SceneData → ℕ → ℕ
entities_shown c s = (slots_after c no_slots (spans_of c.recording s)).used

abbrev pub station_undrawn : SceneData → ℕ → List Undrawn
station_undrawn c s = undrawn_of s (entities_shown c s)

-- THE STATIONS THAT HAVE MORE ENTITIES WITH A SHOWN SPAN THAN BARS ARE DRAWN FOR, each with how many more
unfoldable pub all_undrawn : SceneData → List Undrawn
all_undrawn c = lists_below (station_undrawn c) (length c.recording.setting.stations)

-- THE BARS OF STATION s: the shown spans of the 8 least chosen entities that have one
unfoldable pub station_bars : SceneData → ℕ → List Bar
station_bars c s = bars_from c s no_slots (spans_of c.recording s)

-- ALL BARS, by station, entity and time
unfoldable pub bars_of : SceneData → List Bar
bars_of c = lists_below (station_bars c) (length c.recording.setting.stations)

-- ---- results of functions

-- the entities of some station have too many spans
abbrev pub IsOverfull : PlainRecording → Type 0
IsOverfull r = (s : ℕ) × (MOST_STRETCHES < length (spans_of r s))

-- the bars are appended; OverLimit says that some station has too many spans; of memory nothing is
-- said
abbrev pub Adds : PlainRecording → (old added : List Bar) → Result (Unit {0}) ChartFault → (new : List Bar) → Type 0
Adds r old added (Ok x) new = new ≡ old ++ added
Adds r old added (Err OverLimit) new = IsOverfull r
Adds r old added (Err Memory) new = Unit {0}

-- these bars, and these entities without one
abbrev pub AreBars : SceneData → EntityBars → Type 0
AreBars c made = (made.bars.items ≡ bars_of c) × (made.undrawn.items ≡ all_undrawn c)

-- the result of a function that makes the bars of a scene
abbrev pub Makes : SceneData → Result EntityBars ChartFault → Type 0
Makes c (Ok made) = AreBars c made
Makes c (Err OverLimit) = IsOverfull c.recording
Makes c (Err Memory) = Unit {0}
