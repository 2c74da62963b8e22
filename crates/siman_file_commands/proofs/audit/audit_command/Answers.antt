-- The command ends as what it found says.
use Rattle.siman_outside.specs.Outside.{stream}
use Rattle.siman_file_commands.proofs.Searches.{gives_audit}
use Rattle.siman_file_commands.proofs.audit.audit_command.Goals as goal

pub returns-clause-ends : goal.returns-clause-ends
returns-clause-ends g c =
    let said = gives_audit _ c.put_of_file-found.result (stream _ _) (stream _ _) c.put_of_file-found.ensures in
    (said.0, said.1, (c.put_of_file-found.result, said.2, (c.end.result.written, c.end.ensures)))
