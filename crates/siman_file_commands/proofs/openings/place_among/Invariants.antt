use Rattle.std.proofs.Common.{◌≡◌, ◌≤◌, take}
use Rattle.exercise_recording.specs.Joining.{place_among}
use Rattle.siman_file_commands.proofs.openings.place_among.Given as goal

-- So many of the stations so far have a lower address.
abbrev pub invariant-loop-index : goal.invariant-loop-index
invariant-loop-index g l = let ss = (g.L.ExerciseLog.recording l.log).setting.stations in (l.place ≡ place_among (take l.index ss) l.address) × (l.place ≤ l.index)
