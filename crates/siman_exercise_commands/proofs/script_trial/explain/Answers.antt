use Rattle.siman_exercise_commands.proofs.Trials.{file_order_explains}
use Rattle.std.proofs.Common.{arith}
use Rattle.siman_exercise_commands.proofs.script_trial.explain.Goals as goal

pub unreachable-requires : goal.unreachable-requires
unreachable-requires c = grind (arith, file_order_explains)
