use Rattle.std.proofs.Common.{ℕ, ◌<◌, length}
use Rattle.std.specs.Prelude.{slice_index_or}
use Rattle.exercise_findings.specs.Column.{IsShortColumn}
use Rattle.exercise_findings.specs.Earlier.{IsBackReference, IsBackReferenceSoFar}
use Rattle.exercise_findings.proofs.earlier.back_references.Given as goal

-- The sources of the entries so far are found.
abbrev pub invariant-loop-entry : goal.invariant-loop-entry
invariant-loop-entry g l =
    let r = g.L.ExerciseLog.recording l.log in
    record {
      so_far : IsShortColumn 4294967295 (IsBackReferenceSoFar r) (length r.entries) l.column.items;
      found : (j : ℕ) → j < l.entry → IsBackReference r j (slice_index_or l.column.items j 4294967295);
    }
