-- A plan that ends at a line.
use Rattle.std.proofs.Common.{◌≡◌, Option, Some, None, Result, Err, ap, subst, ◌∙◌}
use Rattle.siman_stations.specs.World.{WorldData}
use Rattle.siman_plans.specs.declared.plan.Plan.{Plan}
use Rattle.siman_plans.specs.declared.plan_fault.LineFault.{LineFault}
use Rattle.siman_plans.specs.declared.plan_fault.LineFault.TheVariants as line_faults
use Rattle.siman_plans.specs.declared.plan_fault.Refusal.{Refusal}
use Rattle.siman_plans.specs.declared.plan_fault.Stop.{Stop}
use Rattle.siman_plans.specs.declared.plan_fault.Stop.TheVariants as stops
use Rattle.siman_plans.specs.declared.planner.Planner.{Planner}
use Rattle.siman_plans.specs.Plan.{PlanData}
use Rattle.siman_plans.specs.Planned.{IsPlan}
use Rattle.siman_plans.specs.SoFar.{IsSoFar, LeavesAll}

-- what lines left that were stopped
pub stopped : (w : WorldData) (should : PlanData × Option Stop) (fault : LineFault) (stop : Stop) (kept : Planner)
    → (let r : Result (Unit {0}) LineFault = Err fault in LeavesAll w should r kept) → fault ≡ line_faults.Stop stop
    → (should.1 ≡ Some stop) × IsSoFar w should.0 kept
stopped w should fault stop kept left is =
    subst (λ (f : LineFault). let r : Result (Unit {0}) LineFault = Err f in LeavesAll w should r kept) is left

pub refused : (w : WorldData) (should : PlanData × Option Stop) (fault : LineFault) (stop : Stop) (refusal : Refusal) (kept : Planner) (p : Plan)
    → (let r : Result (Unit {0}) LineFault = Err fault in LeavesAll w should r kept) → fault ≡ line_faults.Stop stop → stop ≡ stops.Refused refusal
    → ((d : PlanData) → IsSoFar w d kept → IsPlan w (d, Some (stops.Refused refusal)) p) → IsPlan w should p
refused w should fault stop refusal kept p left is named finish =
    let at = stopped w should fault stop kept left is in
    let plan = finish should.0 at.1 in
    record {
      recording = plan.recording;
      planned = plan.planned;
      sent = plan.sent;
      script = plan.script;
      datagrams = plan.datagrams;
      few = plan.few;
      stop = at.0 ∙ (ap (λ (s : Stop). Some s) named ∙ plan.stop);
    }

pub planned : (w : WorldData) (should : PlanData × Option Stop) (kept : Planner) (p : Plan) → (should.1 ≡ None) × IsSoFar w should.0 kept
    → ((d : PlanData) → IsSoFar w d kept → IsPlan w (d, None) p) → IsPlan w should p
planned w should kept p left finish =
    let plan = finish should.0 left.1 in
    record {
      recording = plan.recording;
      planned = plan.planned;
      sent = plan.sent;
      script = plan.script;
      datagrams = plan.datagrams;
      few = plan.few;
      stop = left.0 ∙ plan.stop;
    }
