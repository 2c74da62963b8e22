use Rattle.siman_stations.specs.World.{WorldData}
use Rattle.siman_plans.specs.Plan.{PlanData}
use Rattle.siman_plans.specs.SoFar.{IsSoFar}
use Rattle.siman_plans.proofs.Lines.{GoesOn}
use Rattle.siman_plans.proofs.planner.Planner.run.Given as goal

-- the lines so far gave a plan, and the rest goes on from it
abbrev pub invariant-loop-line : goal.invariant-loop-line
invariant-loop-line l = (w : WorldData) → (d : PlanData) → IsSoFar w d l.fn.self → GoesOn w d l.yielded l.self
