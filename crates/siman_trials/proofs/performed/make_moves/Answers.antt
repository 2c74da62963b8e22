-- One more move.
use Rattle.std.proofs.Common.{refl, rules}
use Rattle.std.proofs.lemmas.Iterator.Consumers.{YieldsList-turn, YieldsList-end}
use Rattle.std.proofs.lemmas.Iterator.Adapters.{YieldsList-from_vec}
use Rattle.siman_lines.proofs.Offered.{each_as, follows_none, follows_then}
use Rattle.siman_trials.proofs.Moves.{move_made, move_halted}
use Rattle.siman_trials.proofs.performed.make_moves.Goals as goal

pub loop-step-init : goal.loop-step-init
loop-step-init g c = (refl, follows_none _ _)

pub loop-step-preserved : goal.loop-step-preserved
loop-step-preserved g c =
    let road = YieldsList-from_vec {s = c.into_iter-step-iterator.result} c.args.moves.items (search rules) (search rules) in
    let turn = YieldsList-turn road c.loop-step.yielded c.loop-step.step-iterator c.loop-step.yielded_by c.next.result c.next.new.self c.in-Some.step c.in-Some.is
    c.next.ensures.steps in (
      move_made _ c.args.moves.items c.loop-step.yielded c.in-Some.step _ _ _ turn c.loop-step.invariant.0 c.in-Ok.ensures.ends,
      follows_then _ _ _ _ c.loop-step.invariant.1 c.in-Ok.ensures.follows,
    )

pub returns-in-Err-clause-ends : goal.returns-in-Err-clause-ends
returns-in-Err-clause-ends g c =
    let road = YieldsList-from_vec {s = c.into_iter-step-iterator.result} c.args.moves.items (search rules) (search rules) in
    let turn = YieldsList-turn road c.loop-step.yielded c.loop-step.step-iterator c.loop-step.yielded_by c.next.result c.next.new.self c.in-Some.step c.in-Some.is
    c.next.ensures.steps in
    move_halted _ c.args.moves.items c.loop-step.yielded c.in-Some.step _ _ _ c.in-Err.halt turn c.loop-step.invariant.0 c.in-Err.ensures.ends

pub returns-in-Err-clause-follows : goal.returns-in-Err-clause-follows
returns-in-Err-clause-follows g c = follows_then _ _ _ _ c.loop-step.invariant.1 c.in-Err.ensures.follows

pub returns-clause-ends : goal.returns-clause-ends
returns-clause-ends g c =
    let road = YieldsList-from_vec {s = c.into_iter-step-iterator.result} c.args.moves.items (search rules) (search rules) in
    let end = YieldsList-end road c.loop-step.yielded c.loop-step.step-iterator c.loop-step.yielded_by c.next.result c.next.new.self c.in-None.is
    c.next.ensures.steps in
    each_as _ _ _ _ _ end.1 c.loop-step.invariant.0
