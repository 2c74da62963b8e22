-- Arrows, receipts from outside, and losses (profile).
use Rattle.std.specs.Prelude.{ℕ, ◌+◌, ◌-◌, List, [], ◌∷◌, ◌++◌, codes, nat_lt, Option, Some, None, if◌then◌else◌}
use Rattle.std.specs.List.{flat_map}
use Rattle.exercise_model.specs.Recording.{PlainRecording}
use Rattle.exercise_model.specs.History.{station_at}
use Rattle.exercise_chart.specs.declared.arrow.Arrow.{Arrow}
use Rattle.exercise_chart.specs.declared.outside.OutsideReceipt.{OutsideReceipt}
use Rattle.exercise_chart.specs.declared.loss.Loss.{Loss}
use Rattle.siman_print.specs.Spelled.{address_text}
use Rattle.exercise_chart.specs.Element.{element_text, number, word}
use Rattle.exercise_chart.specs.Frame.{FrameData, column_at, in_column, column_x, step_y}
use Rattle.exercise_chart.specs.Tone.{tone_of, tone_if, colour_of, head_of}

-- the line of an arrow, from one place to another
abbrev pub arrow_line : Arrow → (x1 y1 x2 y2 : ℕ) → List ℕ
arrow_line a x1 y1 x2 y2 =
    element_text (codes "line")
    (number (codes "x1") x1 ∷ number (codes "y1") y1 ∷ number (codes "x2") x2 ∷ number (codes "y2") y2
    ∷ word (codes "stroke") (colour_of (tone_if a.said)) ∷ word (codes "marker-end") (head_of (tone_if a.said)) ∷ word (codes "class") (codes "arrow")
    ∷ number (codes "data-from") a.from.entry ∷ number (codes "data-to") a.to.entry ∷ [])

-- an arrow to the column of its receiver, from that of its sender; a short horizontal one if that is not kept
abbrev pub arrow_from : FrameData → Arrow → (sender : Option ℕ) → (to : ℕ) → List ℕ
arrow_from f a (Some from) to = arrow_line a (column_x from) (step_y f a.from.step) (column_x to) (step_y f a.to.step)
arrow_from f a None to = arrow_line a (column_x to - 24) (step_y f a.to.step) (column_x to) (step_y f a.to.step)

-- AN ARROW, from the send to the receipt, if the receiver is kept
abbrev pub arrow_text : FrameData → Arrow → List ℕ
arrow_text f a = in_column f a.to.station (arrow_from f a (column_at f a.from.station))

-- a short horizontal arrow to a column
abbrev pub outside_line : FrameData → OutsideReceipt → (to : ℕ) → List ℕ
outside_line f o to =
    element_text (codes "line")
    (number (codes "x1") (column_x to - 24) ∷ number (codes "y1") (step_y f o.to.step)
    ∷ number (codes "x2") (column_x to) ∷ number (codes "y2") (step_y f o.to.step)
    ∷ word (codes "stroke") (colour_of (tone_of o.said)) ∷ word (codes "marker-end") (head_of (tone_of o.said)) ∷ word (codes "class") (codes "outside")
    ∷ word (codes "data-by") (address_text o.by) ∷ number (codes "data-to") o.to.entry ∷ [])

-- A RECEIPT FROM OUTSIDE, if its station is kept
abbrev pub outside_text : FrameData → OutsideReceipt → List ℕ
outside_text f o = in_column f o.to.station (outside_line f o)

-- the place of the cross: before the column `to`, which the datagram from the column `from` did not
-- reach
abbrev pub lost_x : (from to : ℕ) → ℕ
lost_x from to = if nat_lt from to then column_x to - 16 else column_x to + 16

-- a horizontal line from a send to before the column that it did not reach
abbrev pub loss_line : FrameData → PlainRecording → Loss → (from to : ℕ) → List ℕ
loss_line f r l from to =
    element_text (codes "line")
    (number (codes "x1") (column_x from) ∷ number (codes "y1") (step_y f l.from.step)
    ∷ number (codes "x2") (lost_x from to) ∷ number (codes "y2") (step_y f l.from.step)
    ∷ word (codes "stroke") (colour_of (tone_of l.said)) ∷ word (codes "class") (codes "lost")
    ∷ number (codes "data-from") l.from.entry ∷ word (codes "data-at") (address_text (station_at r l.at).address) ∷ [])

-- A LOSS, if its sender and the station that it did not reach are kept
abbrev pub loss_text : FrameData → PlainRecording → Loss → List ℕ
loss_text f r l = in_column f l.from.station (λ from. in_column f l.at (loss_line f r l from))

-- ---- groups

unfoldable pub arrows_text : FrameData → List Arrow → List ℕ
arrows_text f arrows = codes "<g stroke-width=\"2\">\n" ++ flat_map (arrow_text f) arrows ++ codes "</g>\n"

unfoldable pub outsiders_text : FrameData → List OutsideReceipt → List ℕ
outsiders_text f outside = codes "<g stroke-width=\"2\">\n" ++ flat_map (outside_text f) outside ++ codes "</g>\n"

unfoldable pub losses_text : FrameData → PlainRecording → List Loss → List ℕ
losses_text f r losses =
    codes "<g stroke-width=\"2\" stroke-dasharray=\"2 3\" marker-end=\"url(#lost)\">\n" ++ flat_map (loss_text f r) losses ++ codes "</g>\n"
