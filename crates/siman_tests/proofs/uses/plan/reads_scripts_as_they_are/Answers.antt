-- its moves are those that a source means
use Rattle.siman_tests.proofs.uses.plan.reads_scripts_as_they_are.Goals as goal

pub returns : goal.returns
returns c = λ script is. let means = c.a_script_is_a_source.ensures script is in (means.0, means.1, means.2.moves)
