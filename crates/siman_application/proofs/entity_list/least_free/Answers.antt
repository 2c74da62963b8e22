use Rattle.std.proofs.Common.{arith, ap}
use Rattle.dis_records.specs.declared.entity_state.EntityState.TheVariants.{Absent}
use Rattle.exercise_model.specs.Station.{listed_state}
use Rattle.std.proofs.lemmas.List.{drop_all}
use Rattle.siman_application.specs.Listed.{Entities}
use Rattle.siman_application.proofs.Numbers.{least_start, least_more, least_gap, least_found, head_at}
use Rattle.siman_application.proofs.entity_list.least_free.Goals as goal

pub loop-number-init : goal.loop-number-init
loop-number-init c = least_start c.args.entities.now c.requires.opening

pub returns-then-number-least : goal.returns-then-number-least
returns-then-number-least c =
    least_gap c.args.entities.now c.loop-number.number-index c.loop-number.least _
    (head_at c.args.entities.now c.loop-number.number-index (0, Absent) c.loop-number-test.true) c.loop-number.invariant c.if-number-least.true

pub loop-number-preserved : goal.loop-number-preserved
loop-number-preserved c =
    least_more c.args.entities.now c.loop-number.number-index c.loop-number.least _
    (head_at c.args.entities.now c.loop-number.number-index (0, Absent) c.loop-number-test.true) c.loop-number.invariant c.if-number-least.false

pub returns : goal.returns
returns c =
    least_found c.args.entities.now c.loop-number.number-index c.loop-number.least c.loop-number.invariant (omega arith)
    (ap (λ (ys : Entities). listed_state ys c.loop-number.least) (drop_all c.loop-number.number-index c.args.entities.now c.loop-number-test.false))
