use Rattle.std.proofs.Common.{refl}
use Rattle.exercise_model.specs.History.{log_of, past}
use Rattle.exercise_model.specs.Recording.{PlainRecording}
use Rattle.exercise_model.specs.Run.{Explains, IsRun}
use Rattle.siman_stations.specs.World.{world_recording}
use Rattle.siman_tests.proofs.uses.script.explain_themselves.Goals as goal

explains : (r : PlainRecording) → IsRun r.setting (past r.entries) → Explains r (past r.entries)
unfolding log_of
explains r run = record { run = run; logs = λ s. refl }

pub returns : goal.returns
returns c = λ w moves ranges orders fine. explains (world_recording w moves) (c.worlds_are_runs.ensures.run w moves ranges orders fine)
