-- The world does not run, for its first refusal.
use Rattle.std.proofs.Common.{◌≡◌, ◌⊎◌, Some, subst}
use Rattle.siman_scripts.specs.Script.{ScriptData}
use Rattle.siman_stations.specs.declared.world_fault.WorldFault.TheVariants as worlds
use Rattle.siman_exercise_commands.specs.Explained.{text_read}
use Rattle.siman_exercise_commands.specs.World.{refusal_of}
use Rattle.siman_exercise_commands.proofs.Refused.{stopped_yields}
use Rattle.siman_exercise_commands.proofs.world.run_read.Goals as goal

pub returns-in-Err : goal.returns-in-Err
returns-in-Err c =
    let fault = c.in-Err.fault in
    stopped_yields (text_read c.args.text.now) c.args.script fault c.stopped.result c.requires
    (subst (λ (s : ScriptData). (fault ≡ worlds.Memory) ⊎ (refusal_of s ≡ Some fault)) c.script.view_is c.in-Err.ensures.fault) c.stopped.ensures
