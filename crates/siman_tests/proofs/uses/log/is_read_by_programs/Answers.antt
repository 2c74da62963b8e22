use Rattle.exercise_log.specs.Log.{log_lines}
use Rattle.siman_tests.proofs.uses.log.is_read_by_programs.Goals as goal

pub returns : goal.returns
returns c = λ r filters. (log_lines r filters, c.json_says_the_same.ensures.text r filters, c.json_says_the_same.ensures.json r filters)
