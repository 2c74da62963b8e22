-- One more line, where the place has one.
use Rattle.std.proofs.Common.{Some, None, string_bytes, sym, ◌∙◌, append-nil}
use Rattle.exercise_check.specs.Report.{known_line, line_with, known_at}
use Rattle.siman_print.proofs.Texts.{texts-none, texts-with-next, line-of-same}
use Rattle.exercise_check.proofs.report.put_changes.Goals as goal

pub loop-entry-init : goal.loop-entry-init
loop-entry-init g c = texts-none _ _

pub loop-entry-preserved : goal.loop-entry-preserved
loop-entry-preserved g c =
    let i = c.loop-entry.entry in
    let old = string_bytes c.loop-entry.text in
    let step = line-of-same (line_with known_line i) old _ (Some c.in-Some.change) _ c.in_ok-put_pair.ensures (sym c.in-Some.is ∙ c.cause.ensures ∙ c.requires.causes i) in
    texts-with-next (known_at (g.L.ExerciseLog.recording c.args.log.now)) i (string_bytes c.args.text.now) old _ step c.loop-entry.invariant

pub loop-entry-preserved-in_default : goal.loop-entry-preserved-in_default
loop-entry-preserved-in_default g c =
    let i = c.loop-entry.entry in
    let old = string_bytes c.loop-entry.text in
    let step = line-of-same (line_with known_line i) old _ None _ (sym (append-nil old)) (sym c.in_default.is ∙ c.cause.ensures ∙ c.requires.causes i) in
    texts-with-next (known_at (g.L.ExerciseLog.recording c.args.log.now)) i (string_bytes c.args.text.now) old _ step c.loop-entry.invariant
