-- The command ends as what it showed says.
use Rattle.siman_file_commands.proofs.Shown.{shown_file}
use Rattle.siman_file_commands.proofs.show.show_command.Goals as goal

pub returns-clause-ends : goal.returns-clause-ends
returns-clause-ends g c =
    let said = shown_file _ c.say_of_recording-shown.result _ c.say_of_recording-shown.ensures.says in
    (said.0, said.1, (c.say_of_recording-shown.result, said.2, (c.end.result.written, c.end.ensures)))
