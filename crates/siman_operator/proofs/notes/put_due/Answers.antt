-- The rows of one more stand behind those before.
use Rattle.siman_operator.specs.Notes.{at_place, due_row}
use Rattle.siman_operator.proofs.NoteRows.{begins, goes_on}
use Rattle.siman_operator.proofs.notes.put_due.Goals as goal

pub loop-place-init : goal.loop-place-init
loop-place-init c = begins (at_place (due_row c.args.manager.now c.args.before c.args.now) c.args.manager.now) _

pub loop-place-preserved : goal.loop-place-preserved
loop-place-preserved c = goes_on (at_place (due_row c.args.manager.now c.args.before c.args.now) c.args.manager.now) _ _ _ _ c.loop-place.invariant c.in_ok-put_due_at.ensures
