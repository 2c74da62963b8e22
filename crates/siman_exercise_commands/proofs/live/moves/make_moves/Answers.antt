-- One more move.
use Rattle.std.proofs.Common.{refl, rules}
use Rattle.std.specs.Iterator.Adapters.{enumerate_source}
use Rattle.std.proofs.lemmas.Iterator.Consumers.{YieldsList-from_enumerate, YieldsList-turn, YieldsList-end}
use Rattle.std.proofs.lemmas.Iterator.Adapters.{YieldsList-from_vec}
use Rattle.siman_lines.proofs.Offered.{each_as, follows_none, follows_then}
use Rattle.siman_exercise_commands.proofs.Moved.{is_next, all_made, move_made, move_halted}
use Rattle.siman_exercise_commands.proofs.live.moves.make_moves.Goals as goal

pub loop-number-init : goal.loop-number-init
loop-number-init g c = (refl, follows_none _ _)

pub loop-number-preserved : goal.loop-number-preserved
loop-number-preserved g c =
    let it = c.into_iter-number-iterator in
    let road = YieldsList-from_enumerate {s = it.result}
    (YieldsList-from_vec {s = enumerate_source it.result} c.args.moves.items (search rules) (search rules)) (search rules) in
    let turn = YieldsList-turn road c.loop-number.yielded c.loop-number.number-iterator c.loop-number.yielded_by c.next.result c.next.new.self
    (c.in-Some.number, c.in-Some.step) c.in-Some.is c.next.ensures.steps in (
      move_made _ c.args.moves.items c.loop-number.yielded (c.in-Some.number, c.in-Some.step) _ _ _
          (is_next c.args.moves.items c.loop-number.yielded (c.in-Some.number, c.in-Some.step) turn) c.loop-number.invariant.0 c.in-Ok.ensures.made c.in-Ok.ensures.ends,
      follows_then _ _ _ _ c.loop-number.invariant.1 c.in-Ok.ensures.follows,
    )

pub returns-in-Err-clause-ends : goal.returns-in-Err-clause-ends
returns-in-Err-clause-ends g c =
    let it = c.into_iter-number-iterator in
    let road = YieldsList-from_enumerate {s = it.result}
    (YieldsList-from_vec {s = enumerate_source it.result} c.args.moves.items (search rules) (search rules)) (search rules) in
    let turn = YieldsList-turn road c.loop-number.yielded c.loop-number.number-iterator c.loop-number.yielded_by c.next.result c.next.new.self
    (c.in-Some.number, c.in-Some.step) c.in-Some.is c.next.ensures.steps in
    move_halted _ c.args.moves.items c.loop-number.yielded (c.in-Some.number, c.in-Some.step) _ _ _ c.in-Err.halt _
    (is_next c.args.moves.items c.loop-number.yielded (c.in-Some.number, c.in-Some.step) turn) c.loop-number.invariant.0 c.in-Err.ensures.fault c.in-Err.ensures.ends
    c.at.ensures

pub returns-in-Err-clause-follows : goal.returns-in-Err-clause-follows
returns-in-Err-clause-follows g c = follows_then _ _ _ _ c.loop-number.invariant.1 c.in-Err.ensures.follows

pub returns-clause-ends : goal.returns-clause-ends
returns-clause-ends g c =
    let it = c.into_iter-number-iterator in
    let road = YieldsList-from_enumerate {s = it.result}
    (YieldsList-from_vec {s = enumerate_source it.result} c.args.moves.items (search rules) (search rules)) (search rules) in
    let end = YieldsList-end road c.loop-number.yielded c.loop-number.number-iterator c.loop-number.yielded_by c.next.result c.next.new.self
    c.in-None.is c.next.ensures.steps in
    each_as _ _ _ _ _ (all_made c.args.moves.items c.loop-number.yielded end.0) c.loop-number.invariant.0
