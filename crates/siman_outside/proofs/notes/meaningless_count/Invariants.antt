-- The count is that of the entries so far.
use Rattle.std.proofs.Common.{◌≡◌, ◌≤◌, take, Some}
use Rattle.siman_outside.specs.Notes.{meaningless_count}
use Rattle.siman_outside.proofs.notes.meaningless_count.Given as goal

abbrev pub invariant-loop-index : goal.invariant-loop-index
invariant-loop-index g l =
    let r = g.L.ExerciseLog.recording l.log in (meaningless_count r.setting.exercise (take l.index r.entries) ≡ Some l.datagrams) × (l.datagrams ≤ l.index)
