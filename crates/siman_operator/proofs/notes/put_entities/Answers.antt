-- The rows of one more stand behind those before.
use Rattle.siman_application.specs.Application.{came}
use Rattle.siman_application.specs.Play.{state_over}
use Rattle.siman_operator.specs.Notes.{entity_row}
use Rattle.siman_operator.proofs.NoteRows.{begins, goes_on}
use Rattle.siman_operator.proofs.notes.put_entities.Goals as goal

pub loop-number-init : goal.loop-number-init
loop-number-init c = begins (λ e. entity_row c.args.address e (state_over c.args.application.now.outfit (came c.args.application.now) e)) _

pub loop-number-preserved : goal.loop-number-preserved
loop-number-preserved c =
    goes_on (λ e. entity_row c.args.address e (state_over c.args.application.now.outfit (came c.args.application.now) e)) _ _ _ _ c.loop-number.invariant
    (rw c.state.ensures at c.in_ok-put_entity.ensures)
