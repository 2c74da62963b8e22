use Rattle.siman_lines.proofs.AtLines.{recorded_at_lines}
use Rattle.siman_lines.proofs.laws.lines_make_a_run.Goals as goal

pub returns : goal.returns
returns g c = recorded_at_lines
