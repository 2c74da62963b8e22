use Rattle.std.proofs.Common.{List, sym, subst, arith}
use Rattle.exercise_model.specs.Recording.{PlainRecording}
use Rattle.exercise_check.specs.declared.certificate.Step.{Step}
use Rattle.exercise_check.specs.Judging.{Keeps}
use Rattle.exercise_check.proofs.course.Course.over.Goals as goal

pub invariant_of-result : goal.invariant_of-result
invariant_of-result g c =
    let cursors = c.in_ok-cursors.cursors in
    subst (λ (r : PlainRecording). Keeps r c.in_ok-steps.steps.items cursors) c.log-log.ensures
    (subst (λ (xs : List Step). Keeps (g.L.ExerciseLog.recording c.log-log.result.now) xs cursors) (sym c.in_ok-steps.ensures.items)
    (record {
      course = record { limits = c.entry_count.ensures.limits; good = λ k l. absurd (omega arith) };
      next = c.in_ok-cursors.ensures;
    }))
