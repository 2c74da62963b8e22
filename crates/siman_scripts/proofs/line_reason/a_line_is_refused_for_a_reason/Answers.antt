use Rattle.siman_scripts.proofs.Holding.{line_reason-holds}
use Rattle.siman_scripts.proofs.LineReasons.{line_has_reason}
use Rattle.siman_scripts.proofs.line_reason.a_line_is_refused_for_a_reason.Goals as goal

pub returns-clause-reason : goal.returns-clause-reason
returns-clause-reason c = line_has_reason c.args.line.now

pub returns-clause-holds : goal.returns-clause-holds
returns-clause-holds c = line_reason-holds c.args.line.now
