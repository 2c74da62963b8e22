-- What a plan says is what is said of its recording and of its notes.
use Rattle.std.proofs.Common.{◌≡◌, ℕ, List, ◌++◌, length, true, Option, Some, None, Result, refl}
use Rattle.std.specs.Prelude.{option_map}
use Rattle.siman_print.specs.declared.spelling.Spelling.{Spelling}
use Rattle.siman_print.specs.Spelled.{lines_spelled}
use Rattle.siman_stations.specs.World.{sent_in, are_world_stations}
use Rattle.siman_plans.specs.declared.plan.Plan.{Plan}
use Rattle.siman_plans.specs.declared.plan_fault.PlanFault.{PlanFault}
use Rattle.siman_plans.specs.declared.plan_fault.PlanFault.TheVariants as plans
use Rattle.siman_plans.specs.declared.plan_fault.Refusal.{Refusal}
use Rattle.siman_plans.specs.declared.plan_fault.Stop.TheVariants as stops
use Rattle.siman_plans.specs.declared.plan_text.PlanTextFault.{PlanTextFault}
use Rattle.siman_plans.specs.Plan.{PlanData, plan_at}
use Rattle.siman_plans.specs.Planned.{IsPlan, Faults}
use Rattle.siman_plans.specs.PlanText.{PlanTextData, world_of, background_of, rows_of, text_by, text_of, fault_of, unless_long, said_from, said_of, Tells, Says}
use Rattle.siman_plans.specs.Source.{SourceData}

-- a plan that ends at a refused move, or at the end of the lines
stopped : (spelling : Spelling) (s : SourceData) (d : PlanData) (stop : Option Refusal)
    → said_from spelling s d (option_map stops.Refused stop) ≡ unless_long (text_of spelling s d stop)
stopped spelling s d None = refl
stopped spelling s d (Some refusal) = refl

said_planned : (spelling : Spelling) (s : SourceData) (p : Plan) → are_world_stations s.stations ≡ true → IsPlan (world_of s) (plan_at (world_of s) s.lines) p
    → said_of spelling s ≡ unless_long (text_by spelling s p.recording p.sent.items p.planned.items p.script.items p.stop)
said_planned spelling s p fits plan =
    rw fits (rw plan.stop (rw plan.recording (rw plan.planned (rw plan.sent (rw plan.script (stopped spelling s (plan_at (world_of s) s.lines).0 p.stop))))))

-- What is said of a plan is said of its source.
pub says_planned : (spelling : Spelling) (s : SourceData) (p : Plan) (rows script : List ℕ) (sends : ℕ) (result : Result PlanTextData PlanTextFault)
    → are_world_stations s.stations ≡ true → IsPlan (world_of s) (plan_at (world_of s) s.lines) p
    → rows ≡ lines_spelled spelling (rows_of s.exercise (background_of p.recording s.labels) p.sent.items p.planned.items p.stop)
    → script ≡ s.setup ++ p.script.items → sends ≡ length (sent_in p.recording.entries)
    → Says result (unless_long (record { rows = rows; script = script; stop = p.stop; sends = sends })) → Says result (said_of spelling s)
says_planned spelling s p rows script sends result fits plan rows_are script_is sends_are said =
    rw (said_planned spelling s p fits plan) (rw (rows_are, script_is, sends_are) at said)

-- A source has no plan for the reason that is told.
pub tells_none : (spelling : Spelling) (s : SourceData) (fault : PlanFault) → Faults (world_of s) (plan_at (world_of s) s.lines) fault
    → Tells (fault_of fault) (said_of spelling s)
tells_none spelling s plans.Stations fits = rw fits refl
tells_none spelling s (plans.Unnamed line column why) (fits, is) = rw fits (rw is refl)
tells_none spelling s plans.Memory fits = tt
