use Rattle.std.proofs.Common.{◌≡◌, false}
use Rattle.siman_pdus.specs.Reading.{pdu_of}
use Rattle.exercise_chart.proofs.Stations.{is_from_first}
use Rattle.exercise_chart.proofs.outside.is_recorded.Given as goal

-- It comes from none of the stations so far.
abbrev pub invariant-loop-station : goal.invariant-loop-station
invariant-loop-station g l = record {
  none : is_from_first l.scene.recording (pdu_of l.pdu) l.station ≡ false;
  same : g.L.ExerciseLog.recording l.log ≡ l.scene.recording;
}
