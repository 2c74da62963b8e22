use Rattle.siman_lines.proofs.Coming.{comes}
use Rattle.siman_lines.proofs.laws.calls_make_a_run.Goals as goal

pub returns : goal.returns
returns c = comes
