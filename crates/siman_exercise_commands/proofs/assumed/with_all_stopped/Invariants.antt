use Rattle.std.proofs.Common.{◌≡◌, true}
use Rattle.std.specs.Prelude.{drop}
use Rattle.exercise_model.specs.Station.{is_opening}
use Rattle.siman_exercise_commands.specs.Assumed.{with_all_stopped}
use Rattle.siman_exercise_commands.proofs.assumed.with_all_stopped.Given as goal

abbrev pub invariant-loop-entity : goal.invariant-loop-entity
invariant-loop-entity l = (with_all_stopped (drop l.entity-index l.entities) l.opened.items ≡ with_all_stopped l.entities l.opening) × (is_opening l.opened.items ≡ true)
