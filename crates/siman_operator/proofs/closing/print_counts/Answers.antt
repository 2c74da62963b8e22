-- The row of counts is printed.
use Rattle.siman_operator.proofs.closing.print_counts.Goals as goal

pub returns : goal.returns
returns g c = rw (c.deref.ensures, c.in-Ok.ensures) at c.print_text.ensures
