use Rattle.std.proofs.Common.{◌≡◌, drop}
use Rattle.siman_file_commands.specs.Openings.{first_other}
use Rattle.siman_file_commands.proofs.openings.first_other.Given as goal

-- The lists so far agree, and the states are those of the recording.
abbrev pub invariant-loop-opening : goal.invariant-loop-opening
invariant-loop-opening g l =
    let r = g.L.ExerciseLog.recording l.log in (first_other r (drop l.opening-index l.later) ≡ first_other r l.later) × (l.states.recording ≡ r)
