-- The halves of the station decide.
use Rattle.std.proofs.Common.{◌∙◌, None, arith, refl}
use Rattle.siman_outside.proofs.Offered.{at_fault}
use Rattle.siman_exercise_commands.proofs.Moved.{hindered, served}
use Rattle.siman_exercise_commands.specs.Live.Moves.{JudgedEnds}
use Rattle.siman_exercise_commands.proofs.Judged.{stands_at, judged_there, passes_on, on_any, served_any}
use Rattle.siman_lines.proofs.Offered.{follows_one, follows_then}
use Rattle.siman_exercise_commands.proofs.live.moves.judge_and_make.Goals as goal
use Rattle.std.proofs.lemmas.Grind.{elements}

pub returns-in_err-act_at-clause-fault : goal.returns-in_err-act_at-clause-fault
returns-in_err-act_at-clause-fault g c =
    let p = c.index_mut.result.now in
    let there = stands_at c.args.stations.now.items c.from-2.result c.args.step.station p (omega arith) c.from-2.ensures c.index_mut.ensures.value in
    passes_on c.from_residual.result c.in_err-act_at.field-0.0 _ _
    (judged_there (λ p. p.node) p c.args.recorder.now.entries _ c.args.step.now c.args.step.act (omega arith) there)
    c.from_residual.ensures.1 c.in_err-act_at.ensures.fault

pub returns-clause-made : goal.returns-clause-made
returns-clause-made g c =
    let p = c.index_mut.result.now in
    let there = stands_at c.args.stations.now.items c.from-2.result c.args.step.station p (omega arith) c.from-2.ensures c.index_mut.ensures.value in
    on_any c.of_station.result
    (judged_there (λ p. p.node) p c.args.recorder.now.entries _ c.args.step.now c.args.step.act (omega arith) there ∙ c.in_ok-act_at.ensures.made)

pub returns-clause-fault : goal.returns-clause-fault
returns-clause-fault g c = served_any c.of_station.result _ (c.of_station.ensures.fault None c.serve_rounds.ensures.fault)

pub returns-in_err-act_at-clause-follows : goal.returns-in_err-act_at-clause-follows
returns-in_err-act_at-clause-follows g c =
    let p = c.index_mut.result.now in
    let there = stands_at c.args.stations.now.items c.from-2.result c.from-2.result p (omega arith) refl c.index_mut.ensures.value in
    follows_one _ c.from-2.result c.args.stations.now.items c.args.recorder.now _ p _ there c.in_err-act_at.ensures.index c.in_err-act_at.ensures.keeps

pub returns-clause-follows : goal.returns-clause-follows
returns-clause-follows g c =
    let p = c.index_mut.result.now in
    let there = stands_at c.args.stations.now.items c.from-2.result c.from-2.result p (omega arith) refl c.index_mut.ensures.value in
    follows_then _ _ _ _ (follows_one _ c.from-2.result c.args.stations.now.items c.args.recorder.now _ p _ there c.in_ok-act_at.ensures.index c.in_ok-act_at.ensures.keeps)
    c.serve_rounds.ensures.follows

pub returns-in_err-act_at-clause-ends : goal.returns-in_err-act_at-clause-ends
returns-in_err-act_at-clause-ends g c =
    let p = c.index_mut.result.now in
    let there = stands_at c.args.stations.now.items c.from-2.result c.args.step.station p (omega arith) c.from-2.ensures c.index_mut.ensures.value in
    at_fault (JudgedEnds _ c.args.step _ _) c.in_err-act_at.field-0.0 c.from_residual.result c.from_residual.ensures.1
    (hindered _ c.args.step c.from-2.result c.in_err-act_at.field-0.0 c.args.stations.now.items c.args.recorder.now _ p _ c.from-2.ensures there
    c.in_err-act_at.ensures.does)

pub returns-clause-ends : goal.returns-clause-ends
returns-clause-ends g c =
    let p = c.index_mut.result.now in
    let there = stands_at c.args.stations.now.items c.from-2.result c.args.step.station p (omega arith) c.from-2.ensures c.index_mut.ensures.value in
    served _ c.args.step c.from-2.result c.args.stations.now.items c.args.recorder.now _ p _ _ c.of_station.result c.serve_rounds.result c.from-2.ensures there
    c.in_ok-act_at.ensures.does (rw c.relative-moment.ensures at c.serve_rounds.ensures.ends) c.of_station.ensures.named

pub returns-then-from-len-clause-fault : goal.returns-then-from-len-clause-fault
returns-then-from-len-clause-fault g c = grind (arith, elements)
