-- The station at the index does the act, and all are served.
use Rattle.std.proofs.Common.{arith}
use Rattle.siman_lines.proofs.Offered.{follows_one, follows_then, stands_at}
use Rattle.siman_trials.specs.declared.performed.LinkMoveFault.TheVariants.{AtLine}
use Rattle.siman_trials.specs.Moves.{MoveEnds}
use Rattle.siman_trials.proofs.Moves.{at_fault, hindered, served, unserved}
use Rattle.siman_trials.proofs.performed.make_move.Goals as goal

pub returns-in_err-act_at-clause-ends : goal.returns-in_err-act_at-clause-ends
returns-in_err-act_at-clause-ends g c =
    let p = c.index_mut.result.now in
    let there = stands_at c.args.stations.now.items c.from-number.result p (omega arith) c.index_mut.ensures.value in
    at_fault (MoveEnds _ c.args.step _ _) (AtLine c.in_err-act_at.field-0.0) c.from_residual.result c.from_residual.ensures.1
    (hindered _ c.args.step c.from-number.result c.in_err-act_at.field-0.0 c.args.stations.now.items c.args.recorder.now _ p _ c.from-number.ensures there
    c.in_err-act_at.ensures.does)

pub returns-in_err-act_at-clause-follows : goal.returns-in_err-act_at-clause-follows
returns-in_err-act_at-clause-follows g c =
    let p = c.index_mut.result.now in
    let there = stands_at c.args.stations.now.items c.from-number.result p (omega arith) c.index_mut.ensures.value in
    follows_one _ c.from-number.result c.args.stations.now.items c.args.recorder.now _ p _ there c.in_err-act_at.ensures.index c.in_err-act_at.ensures.keeps

pub returns-in_err-serve_rounds-clause-ends : goal.returns-in_err-serve_rounds-clause-ends
returns-in_err-serve_rounds-clause-ends g c =
    let p = c.index_mut.result.now in
    let there = stands_at c.args.stations.now.items c.from-number.result p (omega arith) c.index_mut.ensures.value in
    at_fault (MoveEnds _ c.args.step _ _) (AtLine c.in_err-serve_rounds.field-0.0) c.from_residual-in_err-serve_rounds.result
    c.from_residual-in_err-serve_rounds.ensures.1
    (unserved _ c.args.step c.from-number.result c.in_err-serve_rounds.field-0.0 c.args.stations.now.items c.args.recorder.now _ p _ _ c.from-number.ensures there
    c.in_ok-act_at.ensures.does (rw c.relative-moment.ensures at c.in_err-serve_rounds.ensures.ends))

pub returns-in_err-serve_rounds-clause-follows : goal.returns-in_err-serve_rounds-clause-follows
returns-in_err-serve_rounds-clause-follows g c =
    let p = c.index_mut.result.now in
    let there = stands_at c.args.stations.now.items c.from-number.result p (omega arith) c.index_mut.ensures.value in
    follows_then _ _ _ _ (follows_one _ c.from-number.result c.args.stations.now.items c.args.recorder.now _ p _ there c.in_ok-act_at.ensures.index c.in_ok-act_at.ensures.keeps)
    c.in_err-serve_rounds.ensures.follows

pub returns-clause-ends : goal.returns-clause-ends
returns-clause-ends g c =
    let p = c.index_mut.result.now in
    let there = stands_at c.args.stations.now.items c.from-number.result p (omega arith) c.index_mut.ensures.value in
    served _ c.args.step c.from-number.result c.args.stations.now.items c.args.recorder.now _ p _ _ c.from-number.ensures there c.in_ok-act_at.ensures.does
    (rw c.relative-moment.ensures at c.in_ok-serve_rounds.ensures.ends)

pub returns-clause-follows : goal.returns-clause-follows
returns-clause-follows g c =
    let p = c.index_mut.result.now in
    let there = stands_at c.args.stations.now.items c.from-number.result p (omega arith) c.index_mut.ensures.value in
    follows_then _ _ _ _ (follows_one _ c.from-number.result c.args.stations.now.items c.args.recorder.now _ p _ there c.in_ok-act_at.ensures.index c.in_ok-act_at.ensures.keeps)
    c.in_ok-serve_rounds.ensures.follows
