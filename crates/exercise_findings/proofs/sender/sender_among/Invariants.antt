use Rattle.std.proofs.Common.{◌≡◌, None}
use Rattle.siman_pdus.specs.Reading.{pdu_of}
use Rattle.exercise_model.specs.History.{station_at}
use Rattle.exercise_model.specs.Setting.{is_from}
use Rattle.exercise_model.specs.Place.{first_below}
use Rattle.exercise_findings.proofs.sender.sender_among.Given as goal

abbrev pub invariant-loop-station : goal.invariant-loop-station
invariant-loop-station g l = first_below (λ t. is_from (station_at (g.L.ExerciseLog.recording l.log) t).address (pdu_of l.pdu)) l.station ≡ None
