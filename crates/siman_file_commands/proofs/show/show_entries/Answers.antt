-- The lines of one more place are out or held, or a prefix of all lines is out.
use Rattle.std.proofs.Common.{◌<◌, [], length, string_bytes, arith}
use Rattle.siman_outside.proofs.Offered.{loop-none, loop-passes, loop-fails}
use Rattle.siman_file_commands.proofs.show.show_entries.Goals as goal

pub loop-index-init : goal.loop-index-init
loop-index-init g c = loop-none _ (g.W.Write.contents c.args.out.now) _

pub loop-index-preserved : goal.loop-index-preserved
loop-index-preserved g c =
    loop-passes _ _ (g.W.Write.contents c.args.out.now) _ _ _ (string_bytes c.loop-index.lines) _ c.loop-index.invariant c.in_ok-show_entry.ensures

pub returns-in_err-show_entry : goal.returns-in_err-show_entry
returns-in_err-show_entry g c =
    let within : c.loop-index.index < length (g.L.ExerciseLog.recording c.args.log.now).entries = omega (arith, c.loop-index-test.true, c.entry_count-index-end.ensures.count) in
    loop-fails _ _ _ c.in_err-show_entry.field-0.0 _ (g.W.Write.contents c.args.out.now) _ _ _ (string_bytes c.loop-index.lines) [] _ within
    c.from_residual.ensures.1 c.loop-index.invariant c.in_err-show_entry.ensures
