-- The highest mark that each station sent so far (profile).
use Rattle.std.specs.Prelude.{◌≡◌, ◌≤◌, ◌<◌, ◌+◌, ◌*◌, ◌^◌, ℕ, Option, Some, length, option_map, option_and_then, unwrap_or, slice_index_or}
use Rattle.siman_pdus.specs.declared.pdu.Pdu.{Pdu}
use Rattle.siman_pdus.specs.Role.{request_id_of}
use Rattle.exercise_model.specs.Recording.{PlainRecording}
use Rattle.exercise_model.specs.Place.{own_event}
use Rattle.exercise_findings.specs.declared.rising.HighWaterMarks.{HighWaterMarks}
use Rattle.exercise_findings.specs.Sent.{meant_by_send}

-- the mark of a PDU: its request identifier, or 0, in the upper bits, its timestamp in the lower 32
abbrev pub mark_of : Pdu → ℕ
mark_of p = unwrap_or (request_id_of p.body) 0 * 2 ^ 32 + p.stamp

-- the mark of the PDU that station s sends by entry j
unfoldable pub mark_at : PlainRecording → (s j : ℕ) → Option ℕ
mark_at r s j = option_map mark_of (option_and_then (meant_by_send r.setting.exercise) (own_event r s j))

-- THE TIE: no mark that a station sent by an entry below n is above the station's highest mark
pub record AreHighWaterMarks (r : PlainRecording) (n : ℕ) (x : HighWaterMarks) : Type 0 where
  pub room : length x.tops.items ≡ length r.setting.stations
  pub below : (s j mark : ℕ) → s < length r.setting.stations → j < n → mark_at r s j ≡ Some mark → mark ≤ slice_index_or x.tops.items s 0
