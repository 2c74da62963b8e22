-- A recording was read and searched, or could not be read.
use Rattle.std.proofs.Common.{Some}
use Rattle.siman_outside.specs.Outside.{stream}
use Rattle.siman_file_commands.proofs.Searches.{searched}
use Rattle.siman_file_commands.proofs.audit.AuditCommandOfFile.read.Goals as goal

pub returns : goal.returns
returns g c = searched c.args.self.reading _ _ (stream (Some c.new-nothing.result.items) (Some c.say_of_recording.new.out.items)) c.say_of_recording.ensures.says
