use Rattle.exercise_review.specs.Heard.{IsReceiptIndex}
use Rattle.exercise_review.proofs.answer_receipts.heard_in.Given as goal

-- What was received at the entries so far is kept.
abbrev pub invariant-loop-entry : goal.invariant-loop-entry
invariant-loop-entry g l = IsReceiptIndex (g.L.ExerciseLog.recording l.log) l.entry l.heard
