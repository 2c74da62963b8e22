use Rattle.std.proofs.Common.{sym, subst}
use Rattle.std.specs.Prelude.{Ok}
use Rattle.siman_exercise_commands.specs.Import.{FilesOf}
use Rattle.siman_exercise_commands.proofs.Imported.{as_made}
use Rattle.siman_exercise_commands.proofs.imported_file.file_of.Goals as goal

pub returns-in_ok-file_as_made-in-None : goal.returns-in_ok-file_as_made-in-None
returns-in_ok-file_as_made-in-None c =
    let rule = c.args.rule.now in
    let o = c.args.station.now in
    let it = c.in_ok-file_as_made-in-None in
    subst (λ opening. FilesOf opening rule o c.args.made (Ok it.field-0)) (sym c.in-None.is)
    (as_made rule o c.args.made it.field-0 it.ensures.made it.ensures.text it.ensures.line)
