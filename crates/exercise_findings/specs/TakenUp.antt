-- The request that a sent PDU takes up (profile).
use Rattle.std.specs.Prelude.{ℕ, Option, None, if◌then◌else◌}
use Rattle.siman_pdus.specs.declared.pdu.Pdu.{Pdu}
use Rattle.exercise_model.specs.Recording.{PlainRecording}
use Rattle.exercise_model.specs.History.{station_at}
use Rattle.exercise_model.specs.Exchange.{is_answer_body, request_taken_up}
use Rattle.exercise_model.specs.Place.{log_before}

-- the request that p, sent by station s at entry i, takes up, if p is an answer
abbrev pub request_of_sent : PlainRecording → ℕ → ℕ → Pdu → Option Pdu
request_of_sent r s i p =
    if is_answer_body p.body then request_taken_up r.setting.exercise (station_at r s).address p (log_before r s i) else None
