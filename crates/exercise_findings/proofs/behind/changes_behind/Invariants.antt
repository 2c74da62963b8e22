use Rattle.std.proofs.Common.{take, length}
use Rattle.exercise_findings.specs.Column.{IsShortColumn}
use Rattle.exercise_findings.specs.Number.{IsNumberOf}
use Rattle.exercise_findings.proofs.Ables.{change_among}
use Rattle.exercise_findings.proofs.behind.changes_behind.Given as goal

-- Of each entry stands what was looked up so far.
abbrev pub invariant-loop-able : goal.invariant-loop-able
invariant-loop-able g l =
    let r = g.L.ExerciseLog.recording l.log in
    IsShortColumn 4294967295 (IsNumberOf (change_among r (take l.able-index l.ables))) (length r.entries) l.changes.items
