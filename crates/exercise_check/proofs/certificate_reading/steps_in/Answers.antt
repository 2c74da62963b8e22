use Rattle.std.proofs.Common.{refl, arith}
use Rattle.std.proofs.lemmas.Grind.{common_steps}
use Rattle.std.proofs.lemmas.Result.{err_from_is_err_and}
use Rattle.exercise_model.proofs.Offered.{all_pushed}
use Rattle.byte_files.specs.Fields.{same}
use Rattle.byte_files.proofs.Offered.{times_done, times_on, times_stop}
use Rattle.exercise_check.specs.declared.certificate.Step.{Step}
use Rattle.exercise_check.specs.Certificate.{format_of, is_step, step_at, steps_at}
use Rattle.exercise_check.proofs.certificate_reading.steps_in.Goals as goal

pub returns-in_err-step-clause-steps : goal.returns-in_err-step-clause-steps
returns-in_err-step-clause-steps c =
    let p = err_from_is_err_and c.from_residual.result c.from_residual.ensures.1 in
    let n = c.args.count in
    let i = c.loop.counter in
    rw (p.1, p.2) (times_stop (λ s. tt) (λ u. step_at) n i tt (format_of c.in_err-step.field-0.0) _ _ c.loop.steps.items (steps_at n)
    c.loop-test.true c.in_err-step.ensures.step c.loop.invariant.read)

pub loop-preserved : goal.loop-preserved
loop-preserved c =
    let s : Step = c.in_ok-step.step in
    let n = c.args.count in
    let i = c.loop.counter in
    rw c.in_ok-push.ensures.items (record {
      read = times_on (λ s. tt) (λ u. step_at) n i tt format_of same s _ _ c.step_in.new.text c.loop.steps.items (steps_at n)
          c.loop-test.true c.in_ok-step.ensures.step c.loop.invariant.read;
      each = all_pushed is_step c.loop.steps.items s c.loop.invariant.each c.in_ok-step.ensures.numbers;
      count = grind (arith, common_steps);
    })

pub returns-clause-steps : goal.returns-clause-steps
returns-clause-steps c =
    let n = c.args.count in
    let i = c.loop.counter in
    times_done (λ s. tt) (λ u. step_at) n i tt format_of (λ v. v.items) c.loop.steps _ _ c.loop.steps.items (steps_at n) c.loop-test.false refl c.loop.invariant.read
