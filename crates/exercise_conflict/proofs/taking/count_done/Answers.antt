use Rattle.std.proofs.Common.{ℕ, ◌+◌, length, sym, ap, ◌∙◌, arith}
use Rattle.std.specs.Prelude.{is_some, slice_index_or, if◌then◌else◌}
use Rattle.exercise_model.specs.Recording.{PlainRecording}
use Rattle.exercise_model.specs.Place.{own_event}
use Rattle.exercise_check.specs.Goodness.{no_step}
use Rattle.exercise_check.proofs.Offered.{length-steps-more, length-steps-none}
use Rattle.exercise_conflict.proofs.taking.count_done.Goals as goal

pub loop-step-init : goal.loop-step-init
loop-step-init g c = record { done = sym (length-steps-none (g.L.ExerciseLog.recording c.args.log.now) c.args.station); few = omega arith }

pub loop-step-preserved : goal.loop-step-preserved
loop-step-preserved g c =
    let r : PlainRecording = g.L.ExerciseLog.recording c.args.log.now in
    let s = c.args.station in
    let k = c.loop-step.step-index in
    let steps = c.args.before.now in
    record {
      done = ap {B = ℕ} (λ n. c.loop-step.done + n) (c.one_if-done.ensures.one ∙ ap {B = ℕ} (λ b. if b then 1 else 0) c.is_own.ensures)
          ∙ ap {B = ℕ} (λ d. d + (if is_some (own_event r s (slice_index_or steps k no_step).place) then 1 else 0)) c.loop-step.invariant.done
          ∙ sym (length-steps-more r s steps k c.loop-step-test.true);
      few = omega (arith, c.one_if-done.ensures.few, c.loop-step.invariant.few);
    }
