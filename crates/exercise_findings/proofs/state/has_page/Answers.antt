use Rattle.std.proofs.Common.{arith}
use Rattle.std.proofs.lemmas.Grind.{elements}
use Rattle.exercise_findings.proofs.state.has_page.Goals as goal

pub returns-then-page-pages : goal.returns-then-page-pages
returns-then-page-pages c = grind (arith, elements)

pub returns-else-page-pages : goal.returns-else-page-pages
returns-else-page-pages c = grind (arith, elements)
