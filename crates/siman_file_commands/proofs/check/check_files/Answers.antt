-- The files were judged, or one could not be read.
use Rattle.siman_outside.specs.Outside.{stream}
use Rattle.siman_file_commands.proofs.Verdicts.{judged_files, judged_ok, judged_err}
use Rattle.siman_file_commands.proofs.check.check_files.Goals as goal

pub returns-in-Ok : goal.returns-in-Ok
returns-in-Ok g c =
    let said = judged_files _ (g.C.Read.remaining c.args.certificate) _ (stream _ _) c.in-Ok.ensures.says in
    let text = said.2 in
    (said.0, said.1, (text.0, text.1, judged_ok _ _ c.in-Ok.status _ _ text.2))

pub returns-in-Err : goal.returns-in-Err
returns-in-Err g c =
    let said = judged_files _ (g.C.Read.remaining c.args.certificate) _ (stream _ _) c.in-Err.ensures.says in
    let text = said.2 in
    (said.0, said.1, (text.0, text.1, rw c.files_fault.ensures (judged_err _ _ c.in-Err.fault _ _ text.2)))
