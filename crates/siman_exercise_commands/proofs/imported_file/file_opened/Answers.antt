use Rattle.std.proofs.Common.{sym, subst}
use Rattle.std.specs.Prelude.{Some, Ok}
use Rattle.siman_exercise_commands.specs.Import.{FilesOf}
use Rattle.siman_exercise_commands.proofs.Imported.{as_made_of_none}
use Rattle.siman_exercise_commands.proofs.imported_file.file_opened.Goals as goal

pub returns-in_ok-file_as_made-in-Nothing : goal.returns-in_ok-file_as_made-in-Nothing
returns-in_ok-file_as_made-in-Nothing c =
    let rule = c.args.rule.now in
    let o = c.args.station.now in
    let it = c.in_ok-file_as_made-in-Nothing in
    subst (λ opening. FilesOf (Some opening) rule o c.args.made (Ok it.field-0)) (sym c.in-Nothing.is)
    (as_made_of_none rule o c.args.made it.field-0 it.ensures.made it.ensures.text it.ensures.line)
