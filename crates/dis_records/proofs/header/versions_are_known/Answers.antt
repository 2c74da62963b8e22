use Rattle.dis_records.proofs.Headers.{version_read, status_known}
use Rattle.dis_records.proofs.header.versions_are_known.Goals as goal

pub returns-clause-read : goal.returns-clause-read
returns-clause-read c = version_read

pub returns-clause-status : goal.returns-clause-status
returns-clause-status c = status_known
