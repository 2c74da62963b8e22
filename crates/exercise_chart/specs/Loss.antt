-- The losses of a picture (profile).
use Rattle.std.specs.Prelude.{ℕ, ◌+◌, List, length, Bool, ◌&&◌, not, ◌==◌, Option, Some, None, is_none, option_and_then, slice_get, if◌then◌else◌}
use Rattle.std.specs.Option.{option_to_list}
use Rattle.dis_records.specs.Entity.{is_addressed}
use Rattle.siman_pdus.specs.declared.pdu.Pdu.{Pdu}
use Rattle.siman_pdus.specs.Answers.{same_id}
use Rattle.exercise_model.specs.Entry.{Entry, Sent, Received, Told}
use Rattle.exercise_model.specs.History.{station_at}
use Rattle.exercise_model.specs.Meaning.{meaning}
use Rattle.exercise_review.specs.Room.{lists_below}
use Rattle.exercise_chart.specs.declared.loss.Loss.{Loss}
use Rattle.exercise_chart.specs.Point.{place_at}
use Rattle.exercise_chart.specs.Deeds.{first_sent, first_received}
use Rattle.exercise_chart.specs.Saying.{pdu_summary}
use Rattle.exercise_chart.specs.Scene.{SceneData, point_in}
use Rattle.exercise_chart.specs.Row.{row_count}

-- p, which station s sends in these bytes, is addressed to another recorded station t, which never
-- received the bytes
abbrev pub is_lost_at : SceneData → (s : ℕ) → List ℕ → Pdu → (t : ℕ) → Bool
is_lost_at c s b p t = is_addressed p.target (station_at c.recording t).address && (not (t == s) && is_none (first_received c.recording t b))

abbrev pub loss_of : SceneData → ℕ → (s : ℕ) → List ℕ → (t : ℕ) → Pdu → Option Loss
loss_of c i s b t p = if is_lost_at c s b p t then Some (record { from = point_in c i; at = t; said = pdu_summary p }) else None

-- the loss of a datagram, at the first entry that sends its bytes
abbrev pub loss_of_first : SceneData → ℕ → (s : ℕ) → List ℕ → (t : ℕ) → Option Loss
loss_of_first c i s b t =
    if same_id (first_sent c.recording s b) (Some i) then option_and_then (loss_of c i s b t) (meaning c.recording.setting.exercise b) else None

unfoldable pub loss_entry : SceneData → ℕ → (t : ℕ) → Entry → Option Loss
loss_entry c i t (Sent s stamp b) = loss_of_first c i s b t
loss_entry c i t (Received s stamp b) = None
loss_entry c i t (Told s e y) = None

abbrev pub loss_taken : SceneData → (t : ℕ) → ℕ → Option Loss
loss_taken c t i = option_and_then (loss_entry c i t) (slice_get c.recording.entries i)

-- THE LOSS AT STATION t in the row of a step: the first send of its bytes, addressed to t, which
-- never received them
unfoldable pub loss_at : SceneData → (step t : ℕ) → Option Loss
loss_at c step t = option_and_then (loss_taken c t) (place_at c.steps step)

abbrev pub losses_to : SceneData → (step t : ℕ) → List Loss
losses_to c step t = option_to_list (loss_at c step t)

-- the losses at all stations in the row of a step
unfoldable pub losses_at : SceneData → ℕ → List Loss
losses_at c step = lists_below (losses_to c step) (length c.recording.setting.stations)

abbrev pub losses_shown : SceneData → ℕ → List Loss
losses_shown c n = losses_at c (c.rows.first + n)

-- ALL LOSSES, by row and station
unfoldable pub losses_of : SceneData → List Loss
losses_of c = lists_below (losses_shown c) (row_count c)
