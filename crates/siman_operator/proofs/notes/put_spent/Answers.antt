-- The rows of one more stand behind those before.
use Rattle.siman_operator.specs.Notes.{spent_at}
use Rattle.siman_operator.proofs.NoteRows.{begins, goes_on}
use Rattle.siman_operator.proofs.notes.put_spent.Goals as goal

pub loop-place-init : goal.loop-place-init
loop-place-init c = begins (spent_at c.args.manager.now c.args.now) _

pub loop-place-preserved : goal.loop-place-preserved
loop-place-preserved c = goes_on (spent_at c.args.manager.now c.args.now) _ _ _ _ c.loop-place.invariant c.in_ok-put_spent_at.ensures
