use Rattle.std.proofs.Common.{reverse, subst, sym}
use Rattle.exercise_model.specs.Recording.{PlainRecording}
use Rattle.exercise_model.specs.Run.{IsRun}
use Rattle.exercise_model.specs.History.{past}
use Rattle.siman_stations.specs.Holds.{IsAfter}
use Rattle.siman_stations.specs.World.{WorldData}
use Rattle.siman_stations.proofs.Closure.{is_run}
use Rattle.siman_stations.proofs.world.run_world.Goals as goal

pub returns-clause-run : goal.returns-clause-run
returns-clause-run c =
    let w : WorldData = record { exercise = c.args.exercise; stations = c.args.stations.items } in
    let after : IsAfter w (reverse c.args.moves.items) c.run.new.self = c.in_ok-run.ensures.after w c.in_ok-world.ensures.begun in
    subst (λ (r : PlainRecording). IsRun r.setting (past r.entries)) (sym (c.into_recording.ensures w (reverse c.args.moves.items) after))
    (is_run w (reverse c.args.moves.items) after.world after.moves_are after.made)
