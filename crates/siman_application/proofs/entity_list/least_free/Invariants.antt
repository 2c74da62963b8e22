use Rattle.siman_application.proofs.Numbers.{LeastAt}
use Rattle.siman_application.proofs.entity_list.least_free.Given as goal

abbrev pub invariant-loop-number : goal.invariant-loop-number
invariant-loop-number l = LeastAt l.entities l.number-index l.least
