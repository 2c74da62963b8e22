use Rattle.exercise_review.specs.Entries.{bytes_sent}
use Rattle.exercise_chart.specs.Deeds.{AreFirsts}
use Rattle.exercise_chart.proofs.deeds.first_send_index.Given as goal

-- What the entries so far have is kept.
abbrev pub invariant-loop-entry : goal.invariant-loop-entry
invariant-loop-entry g l = AreFirsts (bytes_sent (g.L.ExerciseLog.recording l.log)) l.entry l.firsts
