use Rattle.std.proofs.Common.{arith}
use Rattle.siman_plans.proofs.SourceForms.{station_short}
use Rattle.siman_plans.proofs.source_form.station_in.Goals as goal

pub returns-in_default : goal.returns-in_default
returns-in_default c = rw (station_short c.args.end c.args.words.now (omega arith)) c.statement_in.ensures
