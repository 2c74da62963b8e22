-- The rows of a picture: one for each shown step (profile).
use Rattle.std.specs.Prelude.{ℕ, ◌+◌, ◌-◌, List, length, Bool, false, not, ◌==◌, Option, Some, None, option_map, option_and_then, slice_get, if◌then◌else◌}
use Rattle.std.specs.Option.{option_map_or, option_to_list}
use Rattle.siman_pdus.specs.declared.pdu.Pdu.{Pdu}
use Rattle.siman_pdus.specs.Answers.{same_id}
use Rattle.exercise_model.specs.Entry.{Entry, Sent, Received, Told}
use Rattle.exercise_model.specs.History.{event_of, station_of}
use Rattle.exercise_model.specs.Meaning.{meaning}
use Rattle.exercise_model.specs.Stamps.{stamp_of}
use Rattle.exercise_review.specs.Order.{head_of}
use Rattle.exercise_review.specs.Room.{lists_below}
use Rattle.exercise_chart.specs.declared.row.Repetition.{Repetition}
use Rattle.exercise_chart.specs.declared.row.Repetition.TheVariants as agains
use Rattle.exercise_chart.specs.declared.row.Activity.{Activity}
use Rattle.exercise_chart.specs.declared.row.Activity.TheVariants as deeds
use Rattle.exercise_chart.specs.declared.row.Row.{Row}
use Rattle.exercise_chart.specs.Point.{place_at}
use Rattle.exercise_chart.specs.Deeds.{first_sent}
use Rattle.exercise_chart.specs.Saying.{pdu_summary}
use Rattle.exercise_chart.specs.Scene.{SceneData}

-- entry i sends a request whose head, its first entry, is another entry
abbrev pub is_repeat : SceneData → ℕ → Bool
is_repeat c i = option_map_or (λ h. not (h == i)) (head_of c.recording i) false

-- WHETHER AND HOW A SEND REPEATS AN EARLIER ONE: equal bytes of this station; or the request, in
-- other bytes
abbrev pub repetition_of : SceneData → ℕ → ℕ → List ℕ → Repetition
repetition_of c i s b =
    if same_id (first_sent c.recording s b) (Some i) then (if is_repeat c i then agains.Repeated else agains.No) else agains.SameBytes

-- what station s does when it sends bytes with this meaning at entry i
abbrev pub send_activity : SceneData → ℕ → ℕ → List ℕ → Option Pdu → Activity
send_activity c i s b None = deeds.SentOther (length b)
send_activity c i s b (Some p) = deeds.Sent (pdu_summary p) (repetition_of c i s b)

abbrev pub receipt_activity : List ℕ → Option Pdu → Activity
receipt_activity b None = deeds.ReceivedOther (length b)
receipt_activity b (Some p) = deeds.Received (pdu_summary p)

-- WHAT A STATION DID at entry i
unfoldable pub activity_of : SceneData → ℕ → Entry → Activity
activity_of c i (Sent s stamp b) = send_activity c i s b (meaning c.recording.setting.exercise b)
activity_of c i (Received s stamp b) = receipt_activity b (meaning c.recording.setting.exercise b)
activity_of c i (Told s e y) = deeds.Told e y

-- the row of a step that takes entry i
abbrev pub row_of : SceneData → (step i : ℕ) → Entry → Row
row_of c step i e = record { at = record { entry = i; step = step; station = station_of (event_of e) }; did = activity_of c i e; stamp = stamp_of c.recording i }

abbrev pub row_taking : SceneData → (step i : ℕ) → Option Row
row_taking c step i = option_map (row_of c step i) (slice_get c.recording.entries i)

-- THE ROW OF A STEP, if there is such a step and the recording has its entry
unfoldable pub row_at : SceneData → ℕ → Option Row
row_at c step = option_and_then (row_taking c step) (place_at c.steps step)

-- the number of shown steps
abbrev pub row_count : SceneData → ℕ
row_count c = c.rows.end - c.rows.first

-- the row of the n-th shown step, from 0
abbrev pub row_shown : SceneData → ℕ → List Row
row_shown c n = option_to_list (row_at c (c.rows.first + n))

-- ALL ROWS, in the order of the steps
unfoldable pub rows_of : SceneData → List Row
rows_of c = lists_below (row_shown c) (row_count c)
