-- It ended as what came of the script says.
use Rattle.siman_exercise_commands.proofs.live.end_live.Goals as goal

pub returns : goal.returns
returns g c =
    let lived = c.live_of_file-lived.ensures in
    (lived.0, lived.1, lived.2, (c.live_of_file-lived.result.answered, lived.3.0, c.conclude.ensures.ends, c.conclude.ensures.fault, rw lived.3.1 at c.incomplete_recording.ensures))
