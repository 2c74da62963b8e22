use Rattle.std.proofs.Common.{refl}
use Rattle.exercise_audit.proofs.Written.{none_written}
use Rattle.exercise_audit.proofs.explained.is_run_as_written.Goals as goal

pub loop-entry-init : goal.loop-entry-init
loop-entry-init g c = (refl, none_written c.args.findings.now)
