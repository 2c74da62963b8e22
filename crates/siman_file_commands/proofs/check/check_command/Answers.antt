-- The command ends as what it judged says.
use Rattle.siman_file_commands.proofs.Verdicts.{judged_files}
use Rattle.siman_file_commands.proofs.check.check_command.Goals as goal

pub returns-clause-ends : goal.returns-clause-ends
returns-clause-ends g c =
    let said = judged_files _ (g.C.Read.remaining c.args.certificate) _ _ c.say_of_certificate-judged.ensures.says in
    let text = said.2 in
    (said.0, said.1, (text.0, text.1, (c.say_of_certificate-judged.result, text.2, (c.end.result.written, c.end.ensures))))
