-- One order more.
use Rattle.std.proofs.Common.{sym, ap, ◌∙◌}
use Rattle.siman_operator.specs.Clocks.{due_time, earlier}
use Rattle.siman_operator.specs.Notes.{due_at}
use Rattle.siman_operator.proofs.EarliestTimes.{none_first, one_more_time}
use Rattle.siman_operator.proofs.ReadyPlaces.{none_passes, passes_here, passes_before}
use Rattle.siman_operator.proofs.clock.order_pace.Goals as goal
use Rattle.siman_operator.proofs.clock.order_pace.Goals.{then-is_due, else-is_due}

pub loop-place-init : goal.loop-place-init
loop-place-init c = (none_passes (due_at c.args.manager.now c.args.now), none_first (due_time c.args.manager.now c.args.wait))

pub loop-place-preserved : goal.loop-place-preserved
loop-place-preserved c =
    let test = due_at c.args.manager.now c.args.now in
    let next = one_more_time (due_time c.args.manager.now c.args.wait) _ _ _ c.loop-place.invariant.1 (c.earlier-until.ensures ∙ ap (earlier _) c.due_time.ensures) in
    elim c.if-is_due.branch [
      | then-is_due w ↦ (w.ticks-is ∙ passes_here test c.loop-place.place (sym c.is_due.ensures ∙ w.if-is_due.true), next)
      | else-is_due w ↦ (w.ticks-is ∙ passes_before test c.loop-place.place c.loop-place.ticks c.loop-place.invariant.0 (sym c.is_due.ensures ∙ w.if-is_due.false), next)
    ]
