-- The signs on the columns that are kept: sends, datagrams that mean nothing, state reports, requests
-- that were never answered there, and entries that cannot happen next (profile).
use Rattle.std.specs.Prelude.{ℕ, List, [], ◌∷◌, length, codes, slice_get}
use Rattle.std.specs.List.{flat_map}
use Rattle.std.specs.Option.{option_map_or}
use Rattle.siman_print.specs.Below.{texts_below}
use Rattle.exercise_chart.specs.declared.bar.Bar.{Bar}
use Rattle.exercise_chart.specs.declared.blocked.BlockedRow.{BlockedRow}
use Rattle.exercise_chart.specs.declared.point.Point.{Point}
use Rattle.exercise_chart.specs.declared.row.Activity.{Activity}
use Rattle.exercise_chart.specs.declared.row.Activity.TheVariants as deeds
use Rattle.exercise_chart.specs.declared.row.Row.{Row}
use Rattle.exercise_chart.specs.Element.{element_text, number, word}
use Rattle.exercise_chart.specs.Frame.{FrameData, in_column, column_x, step_y, blocked_y}
use Rattle.exercise_chart.specs.Slot.{told_x}
use Rattle.exercise_chart.specs.Tone.{tone_of, colour_of}

-- the sign of an entry at x and y
abbrev pub sign_text : (x y entry : ℕ) → (sign colour class : List ℕ) → List ℕ
sign_text x y entry sign colour class =
    element_text (codes "use")
    (word (codes "href") sign ∷ number (codes "x") x ∷ number (codes "y") y ∷ word (codes "fill") colour
    ∷ word (codes "class") class ∷ number (codes "data-entry") entry ∷ [])

-- a sign on the column of its station, in the row of its step
abbrev pub column_sign_text : FrameData → Point → (sign colour class : List ℕ) → List ℕ
column_sign_text f p sign colour class = in_column f p.station (λ c. sign_text (column_x c) (step_y f p.step) p.entry sign colour class)

-- the sign of a told state of entity e, on the bars of the entity
abbrev pub told_sign_text : FrameData → List Bar → Point → (e : ℕ) → List ℕ
told_sign_text f bars p e =
    in_column f p.station (λ c. sign_text (told_x c bars p.station e) (step_y f p.step) p.entry (codes "#told") (codes "#ffffff") (codes "told"))

-- THE SIGN OF WHAT A STATION DID; a receipt that means something has none: its arrow shows it. A told
-- state stands on the bars of its entity
abbrev pub activity_sign_text : FrameData → List Bar → Point → Activity → List ℕ
activity_sign_text f bars p (deeds.Sent said again) = column_sign_text f p (codes "#sent") (colour_of (tone_of said)) (codes "sent")
activity_sign_text f bars p (deeds.Received said) = []
activity_sign_text f bars p (deeds.SentOther bytes) = column_sign_text f p (codes "#other") (codes "#475569") (codes "other")
activity_sign_text f bars p (deeds.ReceivedOther bytes) = column_sign_text f p (codes "#other") (codes "#475569") (codes "other")
activity_sign_text f bars p (deeds.Told e y) = told_sign_text f bars p e

-- THE SIGNS OF WHAT THE STATIONS DID, given the bars
unfoldable pub activity_signs_text : FrameData → List Bar → List Row → List ℕ
activity_signs_text f bars rows = flat_map (λ (row : Row). activity_sign_text f bars row.at row.did) rows

-- THE SIGN OF A REQUEST that was never answered there
unfoldable pub unanswered_text : FrameData → Point → List ℕ
unanswered_text f p = column_sign_text f p (codes "#unanswered") (codes "#ffffff") (codes "unanswered")

unfoldable pub all_unanswered_text : FrameData → List Point → List ℕ
all_unanswered_text f points = flat_map (unanswered_text f) points

-- THE SIGN OF THE n-TH BLOCKED ROW, from 0
abbrev pub blocked_sign_text : FrameData → (n : ℕ) → BlockedRow → List ℕ
blocked_sign_text f n b =
    in_column f b.row.at.station (λ c. sign_text (column_x c) (blocked_y f n) b.row.at.entry (codes "#blocked") (codes "#dc2626") (codes "blocked"))

-- the sign of the blocked row with a number
abbrev pub blocked_sign_at : FrameData → List BlockedRow → (n : ℕ) → List ℕ
blocked_sign_at f blocked n = option_map_or (blocked_sign_text f n) (slice_get blocked n) []

unfoldable pub blocked_signs_text : FrameData → List BlockedRow → List ℕ
blocked_signs_text f blocked = texts_below (blocked_sign_at f blocked) (length blocked)
