-- what it spells is the script of the moves
use Rattle.std.proofs.Common.{refl}
use Rattle.siman_print.specs.declared.spelling.Spelling.TheVariants.{Text}
use Rattle.siman_tests.proofs.uses.plan.writes_a_script.Goals as goal

pub returns : goal.returns
returns c = λ said is ended. let law = c.plain_scripts_are_scripts.ensures Text said is ended in rw law.2 refl
