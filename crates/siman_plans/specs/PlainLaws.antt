-- What is true of the plain scripts of all plans (profile).
use Rattle.std.specs.Prelude.{◌≡◌, ℕ, List, reverse, None, Ok}
use Rattle.siman_print.specs.declared.spelling.Spelling.{Spelling}
use Rattle.siman_scripts.specs.Script.{script_at}
use Rattle.siman_plans.specs.Plan.{plan_at}
use Rattle.siman_plans.specs.PlanText.{PlanTextData, world_of, said_at}
use Rattle.siman_plans.specs.Source.{SourceData, read_at}

-- THE PLAIN SCRIPT OF A PLAN that no refusal stops spells the exercise and the stations of its source, and the moves
-- that its lines made
abbrev pub IsScriptOfMoves : Spelling → List ℕ → Type 0
IsScriptOfMoves spelling text = (t : PlanTextData) → said_at spelling text ≡ Ok t → t.stop ≡ None → (s : SourceData) × (read_at text ≡ Ok s)
    × (script_at t.script ≡ Ok (record { exercise = s.exercise; stations = s.stations; moves = reverse (plan_at (world_of s) s.lines).0.moves }))
