use Rattle.std.proofs.Common.{Some, ap, ◌∙◌}
use Rattle.siman_stations.specs.World.{WorldData}
use Rattle.siman_plans.specs.declared.plan_fault.Stop.{Stop}
use Rattle.siman_plans.specs.Plan.{no_plan, plan_at}
use Rattle.siman_plans.proofs.Plans.{stopped, refused, planned}
use Rattle.siman_plans.proofs.plan.plan_of.Goals as goal

pub returns-in-Err-Stop-Refused-clause-plan : goal.returns-in-Err-Stop-Refused-clause-plan
returns-in-Err-Stop-Refused-clause-plan c =
    let w : WorldData = record { exercise = c.args.exercise; stations = c.args.stations.items } in
    let arm = c.in-Err-Stop-Refused in
    refused w (plan_at w c.args.lines.items) arm.field-0 arm.field-0-0 arm.refusal c.run.new.self c.finish-in-Err-Stop-Refused.result
    (c.in-Err-Stop-Refused.ensures w no_plan c.in_ok-planner.ensures.begun) arm.field-0-is arm.field-0-0-is (c.finish-in-Err-Stop-Refused.ensures w)

pub returns-in-Err-Stop-Unnamed-clause-fault : goal.returns-in-Err-Stop-Unnamed-clause-fault
returns-in-Err-Stop-Unnamed-clause-fault c =
    let w : WorldData = record { exercise = c.args.exercise; stations = c.args.stations.items } in
    let arm = c.in-Err-Stop-Unnamed in (
      c.in_ok-planner.ensures.stations,
      (stopped w (plan_at w c.args.lines.items) arm.field-0 arm.field-0-0 c.run.new.self
          (c.in-Err-Stop-Unnamed.ensures w no_plan c.in_ok-planner.ensures.begun) arm.field-0-is).0 ∙ ap (λ (s : Stop). Some s) arm.field-0-0-is,
    )

pub returns-in-Ok-clause-plan : goal.returns-in-Ok-clause-plan
returns-in-Ok-clause-plan c =
    let w : WorldData = record { exercise = c.args.exercise; stations = c.args.stations.items } in
    planned w (plan_at w c.args.lines.items) c.run.new.self c.finish.result (c.in-Ok.ensures w no_plan c.in_ok-planner.ensures.begun) (c.finish.ensures w)
