-- The three parts of the text, passed on one after the other.
use Rattle.std.proofs.Common.{[], subst}
use Rattle.std.specs.Prelude.{Err}
use Rattle.siman_outside.specs.Passing.{PassesOn}
use Rattle.siman_outside.proofs.Offered.{passed-then, passes-then, fails-same, fails-longer, passes-last}
use Rattle.siman_file_commands.proofs.Shown.{whole_text}
use Rattle.siman_file_commands.proofs.show.show_log.Goals as goal

pub returns-in_err-show_stations : goal.returns-in_err-show_stations
returns-in_err-show_stations g c =
    let whole = whole_text (g.L.ExerciseLog.recording c.args.log.now) _ c.in_ok-lines.ensures in
    subst (PassesOn c.from_residual-in_err-show_stations.result _ _ []) whole (fails-longer c.in_err-show_stations.field-0.0 _ _ _ [] [] _ _
    c.from_residual-in_err-show_stations.ensures.1 c.in_err-show_stations.ensures)

pub returns-in_err-show_entries : goal.returns-in_err-show_entries
returns-in_err-show_entries g c =
    let whole = whole_text (g.L.ExerciseLog.recording c.args.log.now) _ c.in_ok-lines.ensures in
    let fault = c.in_err-show_entries.field-0.0 in
    subst (PassesOn c.from_residual-in_err-show_entries.result _ _ []) whole (fails-same fault _ _ _ [] [] _ c.from_residual-in_err-show_entries.ensures.1
    (passes-then (Err fault) _ _ _ _ _ _ [] c.in_ok-show_stations.ensures c.in_err-show_entries.ensures))

pub returns : goal.returns
returns g c =
    let whole = whole_text (g.L.ExerciseLog.recording c.args.log.now) _ c.in_ok-lines.ensures in
    subst (PassesOn c.pass_on.result _ _ []) whole (passes-last c.pass_on.result _ _ _ _ _ _
    (passed-then _ _ _ _ _ _ _ c.in_ok-show_stations.ensures c.in_ok-show_entries.ensures) c.pass_on.ensures.passed c.pass_on.ensures.held)
