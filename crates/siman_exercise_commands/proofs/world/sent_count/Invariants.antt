-- The count is that of the entries so far.
use Rattle.std.proofs.Common.{◌≡◌, ◌≤◌, length, map, take}
use Rattle.exercise_model.specs.Held.{kept}
use Rattle.siman_stations.specs.World.{sent_in}
use Rattle.siman_exercise_commands.proofs.world.sent_count.Given as goal

abbrev pub invariant-loop-entry : goal.invariant-loop-entry
invariant-loop-entry l = (l.count ≡ length (sent_in (take l.entry-index (map kept l.entries)))) × (l.count ≤ l.entry-index)
