-- The receipts from outside in a picture (profile).
use Rattle.std.specs.Prelude.{ℕ, ◌+◌, List, Option, Some, None, option_and_then, slice_get, if◌then◌else◌}
use Rattle.std.specs.Option.{option_to_list}
use Rattle.dis_records.specs.Entity.{site_application_of}
use Rattle.siman_pdus.specs.declared.pdu.Pdu.{Pdu}
use Rattle.exercise_model.specs.Entry.{Entry, Sent, Received, Told}
use Rattle.exercise_model.specs.Meaning.{meaning}
use Rattle.exercise_review.specs.Order.{is_outside}
use Rattle.exercise_review.specs.Room.{lists_below}
use Rattle.exercise_chart.specs.declared.outside.OutsideReceipt.{OutsideReceipt}
use Rattle.exercise_chart.specs.Point.{place_at}
use Rattle.exercise_chart.specs.Saying.{pdu_summary}
use Rattle.exercise_chart.specs.Scene.{SceneData, point_in}
use Rattle.exercise_chart.specs.Row.{row_count}

-- the receipt of p at entry i, if p is from outside: with the address of its sender
abbrev pub outside_receipt : SceneData → ℕ → Pdu → Option OutsideReceipt
outside_receipt c i p =
    if is_outside c.recording p then Some (record { by = site_application_of p.origin; to = point_in c i; said = pdu_summary p }) else None

unfoldable pub outside_receipt_in : SceneData → ℕ → Entry → Option OutsideReceipt
outside_receipt_in c i (Sent s stamp b) = None
outside_receipt_in c i (Received s stamp b) = option_and_then (outside_receipt c i) (meaning c.recording.setting.exercise b)
outside_receipt_in c i (Told s e y) = None

abbrev pub outside_receipt_by : SceneData → ℕ → Option OutsideReceipt
outside_receipt_by c i = option_and_then (outside_receipt_in c i) (slice_get c.recording.entries i)

-- THE RECEIPT FROM OUTSIDE in the row of a step
unfoldable pub outside_receipt_at : SceneData → ℕ → Option OutsideReceipt
outside_receipt_at c step = option_and_then (outside_receipt_by c) (place_at c.steps step)

abbrev pub outside_receipts_shown : SceneData → ℕ → List OutsideReceipt
outside_receipts_shown c n = option_to_list (outside_receipt_at c (c.rows.first + n))

-- ALL RECEIPTS FROM OUTSIDE, by row
unfoldable pub outside_receipts : SceneData → List OutsideReceipt
outside_receipts c = lists_below (outside_receipts_shown c) (row_count c)
