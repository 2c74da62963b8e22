-- What is said of the plan is said of the source.
use Rattle.std.proofs.Common.{◌∙◌, ap, subst, sym, map, ◌++◌, ℕ, List}
use Rattle.siman_plans.specs.declared.plan_text.PlanTextFault.{PlanTextFault}
use Rattle.siman_plans.specs.PlanText.{said_of, Tells, Says}
use Rattle.siman_plans.specs.Source.{SourceData}
use Rattle.siman_plans.proofs.PlanTexts.{says_planned, tells_none}
use Rattle.siman_plans.proofs.plan_text.say_source.Goals as goal

pub returns-in-Err : goal.returns-in-Err
returns-in-Err c =
    let i = c.source.inside in
    let s : SourceData = record { exercise = i.exercise; stations = i.stations.items; setup = i.setup.items; lines = i.lines.items; labels = map (λ l. l.now) i.labels.items } in
    subst (λ (source : SourceData). Tells c.fault_of.result (said_of c.args.spelling source)) c.source.view_is
    (subst (λ (fault : PlanTextFault). Tells fault (said_of c.args.spelling s)) (sym c.fault_of.ensures) (tells_none c.args.spelling s c.in-Err.fault c.in-Err.ensures.fault))

pub returns : goal.returns
returns c =
    let i = c.source.inside in
    let s : SourceData = record { exercise = i.exercise; stations = i.stations.items; setup = i.setup.items; lines = i.lines.items; labels = map (λ l. l.now) i.labels.items } in
    subst (λ (source : SourceData). Says c.unless_long.result (said_of c.args.spelling source)) c.source.view_is
    (says_planned c.args.spelling s c.in-Ok.plan _ _ _ c.unless_long.result c.in-Ok.ensures.stations c.in-Ok.ensures.plan c.in_ok-rows.ensures.rows
    (c.in_ok-extend_from_slice.ensures.items ∙ ap (λ (t : List ℕ). i.setup.items ++ t) c.deref.ensures.value) c.in_ok-rows.ensures.sends c.unless_long.ensures)
