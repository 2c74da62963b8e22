use Rattle.std.proofs.Common.{arith}
use Rattle.siman_file_commands.proofs.LaterOpenings.{log_past}
use Rattle.siman_file_commands.proofs.openings.entry_within.Goals as goal

pub returns-then-entry-entry_count-clause-same : goal.returns-then-entry-entry_count-clause-same
returns-then-entry-entry_count-clause-same g c s =
    let r = g.L.ExerciseLog.recording c.args.log.now in
    rw c.entry_count-then-entry-entry_count.ensures.count (log_past r s c.args.entry (omega (arith, c.if-entry-entry_count.true, c.entry_count.ensures.count)))
