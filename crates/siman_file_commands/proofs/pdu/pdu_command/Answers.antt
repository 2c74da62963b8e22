-- The command ends as what it told says.
use Rattle.siman_file_commands.proofs.pdu.pdu_command.Goals as goal

pub returns-clause-ends : goal.returns-clause-ends
returns-clause-ends g c = (c.show_word.result, c.show_word.ensures, (c.end.result.written, c.end.ensures))
