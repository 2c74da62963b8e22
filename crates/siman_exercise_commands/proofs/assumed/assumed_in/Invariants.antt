use Rattle.std.proofs.Common.{◌≡◌}
use Rattle.siman_exercise_commands.specs.Assumed.{is_assumed, numbers_below}
use Rattle.siman_exercise_commands.proofs.assumed.assumed_in.Given as goal

abbrev pub invariant-loop-entity : goal.invariant-loop-entity
invariant-loop-entity g l = l.entities.items ≡ numbers_below (is_assumed l.findings l.opening) l.entity
