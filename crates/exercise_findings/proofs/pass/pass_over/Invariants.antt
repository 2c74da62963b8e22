use Rattle.exercise_findings.specs.Requests.{AreRequests}
use Rattle.exercise_findings.specs.HighWaterMarks.{AreHighWaterMarks}
use Rattle.exercise_findings.specs.Tables.{IsPass}
use Rattle.exercise_findings.proofs.pass.pass_over.Given as goal

-- What was found so far is what a pass finds in the entries so far, and so is what is kept of requests and of how far stations rose.
abbrev pub invariant-loop-entry : goal.invariant-loop-entry
invariant-loop-entry g l = IsPass (g.L.ExerciseLog.recording l.log) l.entry l.found × AreRequests (g.L.ExerciseLog.recording l.log) l.entry l.requests
    × AreHighWaterMarks (g.L.ExerciseLog.recording l.log) l.entry l.rising
