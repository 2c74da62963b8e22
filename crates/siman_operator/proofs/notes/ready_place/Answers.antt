-- None before it was found.
use Rattle.std.proofs.Common.{sym, ◌∙◌, arith}
use Rattle.siman_operator.specs.Notes.{ready_at, ready_place}
use Rattle.siman_operator.proofs.ReadyPlaces.{none_at_first, one_more, found}
use Rattle.siman_operator.proofs.notes.ready_place.Goals as goal

pub loop-place-init : goal.loop-place-init
loop-place-init c = none_at_first (ready_at c.args.manager.now c.args.now)

pub loop-place-preserved : goal.loop-place-preserved
loop-place-preserved c = one_more (ready_at c.args.manager.now c.args.now) _ c.loop-place.invariant (sym c.is_ready_at.ensures ∙ c.if-is_ready_at.false)

pub returns-then-is_ready_at : goal.returns-then-is_ready_at
unfolding ready_place
returns-then-is_ready_at c =
    sym (found (ready_at c.args.manager.now c.args.now) _ _ c.loop-place.invariant (omega arith) (sym c.is_ready_at.ensures ∙ c.if-is_ready_at.true))
