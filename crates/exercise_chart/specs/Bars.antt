-- Bars: the spans of the entities' lives, and how many entities have none, in the columns that are kept
-- (profile).
use Rattle.std.specs.Prelude.{ℕ, ◌+◌, ◌-◌, List, [], ◌∷◌, ◌++◌, codes, decimal, Option, Some, None}
use Rattle.std.specs.List.{flat_map}
use Rattle.dis_records.specs.Texts.{entity_text, state_text}
use Rattle.dis_records.specs.declared.entity_state.EntityState.{EntityState}
use Rattle.dis_records.specs.declared.entity_state.EntityState.TheVariants as states
use Rattle.exercise_model.specs.Recording.{PlainRecording}
use Rattle.exercise_model.specs.History.{station_at}
use Rattle.siman_print.specs.Spelled.{address_text}
use Rattle.exercise_chart.specs.declared.bar.Bar.{Bar}
use Rattle.exercise_chart.specs.declared.bar.Undrawn.{Undrawn}
use Rattle.exercise_chart.specs.declared.bar.TheConstants.{MOST_ENTITIES}
use Rattle.exercise_chart.specs.declared.point.Point.{Point}
use Rattle.exercise_chart.specs.Element.{element_text, begun_words, words_text, number, word}
use Rattle.exercise_chart.specs.Frame.{FrameData, in_column, slot_x, top_y, since_y, until_y}

-- green for Running, else amber
abbrev pub state_colour : EntityState → List ℕ
state_colour states.Running = codes "#4ade80"
state_colour state = codes "#fbbf24"

-- the entry of a change, or `-`
abbrev pub change_text : Option Point → List ℕ
change_text (Some change) = decimal change.entry
change_text None = codes "-"

-- THE RECTANGLE OF A SPAN, from the change that began it to the change that ended it
abbrev pub stretch_text : FrameData → (column : ℕ) → Bar → List ℕ
stretch_text f c b =
    element_text (codes "rect")
    (number (codes "x") (slot_x c b.slot - 6) ∷ number (codes "y") (since_y f b.from) ∷ number (codes "width") 11
    ∷ number (codes "height") (until_y f b.to - since_y f b.from) ∷ word (codes "fill") (state_colour b.state) ∷ word (codes "class") (codes "bar")
    ∷ word (codes "data-entity") (entity_text b.entity) ∷ word (codes "data-state") (state_text b.state)
    ∷ word (codes "data-from") (change_text b.from) ∷ word (codes "data-to") (change_text b.to) ∷ [])

-- the number of the entity, at the upper end of the bar
abbrev pub bar_name_text : FrameData → (column : ℕ) → Bar → List ℕ
bar_name_text f c b =
    words_text (number (codes "x") (slot_x c b.slot) ∷ number (codes "y") (since_y f b.from + 7) ∷ []) (decimal b.entity.entity)

abbrev pub whole_bar_text : FrameData → Bar → (column : ℕ) → List ℕ
whole_bar_text f b c = stretch_text f c b ++ bar_name_text f c b

-- A BAR, if its station is kept
abbrev pub bar_text : FrameData → Bar → List ℕ
bar_text f b = in_column f b.station (whole_bar_text f b)

-- +N MORE: how many entities of a station have no bar, at the upper end to the right of its bars
abbrev pub undrawn_words : PlainRecording → Undrawn → (column : ℕ) → List ℕ
undrawn_words r u c =
    begun_words (number (codes "x") (slot_x c MOST_ENTITIES) ∷ number (codes "y") (top_y + 7) ∷ word (codes "class") (codes "undrawn")
    ∷ word (codes "data-at") (address_text (station_at r u.station).address) ∷ number (codes "data-entities") u.entities ∷ [])
    ++ codes "+" ++ decimal u.entities ++ codes " more</text>\n"

abbrev pub undrawn_text : FrameData → PlainRecording → Undrawn → List ℕ
undrawn_text f r u = in_column f u.station (undrawn_words r u)

-- the numbers run vertically, since the bars are narrow
abbrev pub bars_begin : List ℕ
bars_begin = codes "<g fill=\"#1f2933\" writing-mode=\"vertical-rl\" font-size=\"13\">\n"

unfoldable pub all_bars_text : FrameData → List Bar → List ℕ
all_bars_text f bars = flat_map (bar_text f) bars

unfoldable pub all_undrawn_text : FrameData → PlainRecording → List Undrawn → List ℕ
all_undrawn_text f r undrawn = flat_map (undrawn_text f r) undrawn

-- THE BARS, and the entities without one
unfoldable pub bars_text : FrameData → PlainRecording → List Bar → List Undrawn → List ℕ
bars_text f r bars undrawn = bars_begin ++ all_bars_text f bars ++ all_undrawn_text f r undrawn ++ codes "</g>\n"
