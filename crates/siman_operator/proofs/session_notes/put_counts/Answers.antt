-- What was put is the row with these fields.
use Rattle.siman_operator.proofs.session_notes.put_counts.Goals as goal

pub returns : goal.returns
returns c = rw (c.from.ensures, c.number_value.ensures) at c.put_named.ensures
