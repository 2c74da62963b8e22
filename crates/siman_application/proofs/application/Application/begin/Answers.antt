use Rattle.std.proofs.Common.{◌≡◌, ◌≤◌, ap, sym, ◌∙◌, length, arith}
use Rattle.siman_application.specs.declared.fault.AppFault.TheVariants.{Memory, TooMany}
use Rattle.siman_application.specs.declared.entity_list.TheConstants.{MOST_ENTITIES}
use Rattle.exercise_model.specs.Station.{StationData, is_opening}
use Rattle.siman_application.specs.Holding.{held_in}
use Rattle.siman_application.proofs.TablesStay.{begun_in_range, right_start}
use Rattle.siman_application.proofs.application.Application.begin.Goals as goal

pub invariant_of-result : goal.invariant_of-result
invariant_of-result c =
    let opening : c.in_ok-entities.entities ≡ c.args.station.now.opening = c.in_ok-entities.ensures ∙ c.opening-2.ensures.items in
    right_start _ c.new.result c.in_ok-entities.entities (held_in c.in_ok-held.held)
    (begun_in_range c.args.exercise c.in_ok-station.station _ _ (omega arith) c.in_ok-station.ensures.station c.datums_are_in_range.ensures) c.new.ensures.empty
    (opening ∙ ap (λ (s : StationData). s.opening) (sym c.in_ok-station.ensures.copy))
    (ap is_opening opening ∙ c.opening.ensures.opening) c.in_ok-held.ensures

pub returns-clause-ranges : goal.returns-clause-ranges
returns-clause-ranges c =
    begun_in_range c.args.exercise c.in_ok-station.station _ _ (omega arith) c.in_ok-station.ensures.station c.datums_are_in_range.ensures

pub returns-clause-too_many : goal.returns-clause-too_many
returns-clause-too_many c =
    let few : length c.opening.result.now ≤ MOST_ENTITIES = c.if-opening-gt-MOST_ENTITIES.false in
    (λ e. absurd cc, λ h. absurd (omega (arith, few, h, ap length c.opening.ensures.items)))

pub returns-in_err-actions-clause-too_many : goal.returns-in_err-actions-clause-too_many
returns-in_err-actions-clause-too_many c =
    let few : length c.opening.result.now ≤ MOST_ENTITIES = c.if-opening-gt-MOST_ENTITIES.false in
    let h = c.from_residual-in_err-actions.ensures in
    (λ e. (let memory : TooMany ≡ Memory = (rw e at h).1 in absurd cc), λ h. absurd (omega (arith, few, h, ap length c.opening.ensures.items)))
