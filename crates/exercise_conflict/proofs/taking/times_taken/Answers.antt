use Rattle.std.proofs.Common.{ℕ, ◌+◌, length, cond, get_or, sym, ap, ◌∙◌, arith}
use Rattle.std.specs.Prelude.{slice_index_or, nat_eq}
use Rattle.std.proofs.lemmas.List.{get_or-replicate, length-replicate}
use Rattle.exercise_check.specs.Goodness.{no_step}
use Rattle.exercise_conflict.proofs.Counted.{one_taken, room}
use Rattle.exercise_conflict.proofs.taking.times_taken.Goals as goal
use Rattle.std.proofs.lemmas.Grind.{common_steps}

pub loop-step-init : goal.loop-step-init
loop-step-init c =
    let items = c.in_ok-times.ensures.items_if_clones_equal (λ y same. same) in
    record {
      count = ap length items ∙ length-replicate c.args.entries 0;
      each = λ k below. ap (λ xs. slice_index_or xs k 0) items ∙ get_or-replicate c.args.entries k 0 0 below;
    }

pub count_one-requires : goal.count_one-requires
count_one-requires c =
    room c.args.steps.now c.loop-step.step-index c.args.entries c.loop-step.times.items (omega arith) (omega arith) c.loop-step.invariant.count c.loop-step.invariant.each

pub loop-step-preserved : goal.loop-step-preserved
loop-step-preserved c =
    let counted = c.count_one.ensures in
    record {
      count = counted.count ∙ c.loop-step.invariant.count;
      each = λ i below.
          counted.each i (omega (arith, below, c.loop-step.invariant.count))
          ∙ ap {B = ℕ} (λ n. n + cond (nat_eq (get_or c.args.steps.now c.loop-step.step-index no_step).place i) 1 0) (c.loop-step.invariant.each i below)
          ∙ sym (one_taken c.args.steps.now c.loop-step.step-index i c.loop-step-test.true);
    }

pub returns-clause-each : goal.returns-clause-each
returns-clause-each c = grind (arith, common_steps)
