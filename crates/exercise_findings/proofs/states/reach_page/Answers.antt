use Rattle.std.proofs.Common.{ap, ◌∙◌, arith}
use Rattle.exercise_findings.specs.States.{held_at}
use Rattle.exercise_findings.proofs.EntityStates.{held_at-pushed}
use Rattle.exercise_findings.proofs.states.reach_page.Goals as goal

pub loop-next-preserved : goal.loop-next-preserved
loop-next-preserved c = record {
  count = omega (arith, c.in_ok-push.ensures.len, c.loop-next.invariant.count);
  held = λ e. ap (λ pages. held_at pages e) c.in_ok-push.ensures.items
      ∙ held_at-pushed c.loop-next.pages.items c.new.result e c.new.ensures.items ∙ c.loop-next.invariant.held e;
}
