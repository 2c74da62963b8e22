use Rattle.std.proofs.Common.{ℕ, List, Option, None, refl, sym, subst, arith}
use Rattle.exercise_model.specs.declared.cause.Cause.{Cause}
use Rattle.exercise_findings.specs.Column.{IsColumn, IsShortColumn}
use Rattle.exercise_findings.specs.Behind.{AreChangeKeys}
use Rattle.exercise_findings.specs.Earlier.{IsBackReference, IsBackReferenceSoFar}
use Rattle.exercise_findings.specs.Tables.{IsOwnCause, IsChangeAt}
use Rattle.exercise_findings.proofs.Ables.{behind_none}
use Rattle.exercise_findings.proofs.Columns.{column_none, short_none}
use Rattle.exercise_findings.proofs.pass.empty_pass.Goals as goal

pub returns : goal.returns
returns g c =
    let r = g.L.ExerciseLog.recording c.args.log.now in
    record {
      tied = c.in_ok-tables.ensures;
      causes = subst (λ (xs : List (Option Cause)). IsColumn None (IsOwnCause r) 0 xs) (sym c.in_ok-causes.ensures.items) (column_none None (IsOwnCause r));
      changes = subst (λ (xs : List ℕ). IsShortColumn 0 (IsChangeAt r) 0 xs) (sym c.new.ensures.items) (short_none 0 (IsChangeAt r));
      earlier = subst (λ (xs : List ℕ). IsShortColumn 4294967295 (IsBackReferenceSoFar r) 0 xs) (sym c.new-2.ensures.items) (short_none 4294967295 (IsBackReferenceSoFar r));
      later = λ _. subst (λ (xs : List ℕ). IsShortColumn 4294967295 (IsBackReference r) 0 xs) (sym c.new-2.ensures.items) (short_none 4294967295 (IsBackReference r));
      ables = subst (λ (xs : List ℕ). AreChangeKeys r 0 xs) (sym c.new-3.ensures.items) (behind_none r);
      answered = c.no_answer_marks-answered.ensures;
      sends = c.no_sends.ensures r;
      others = refl;
      few = omega arith;
    }
