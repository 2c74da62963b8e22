use Rattle.std.proofs.Common.{suc, length, drop, ◌∙◌, sym, subst, rules}
use Rattle.std.specs.Prelude.{List}
use Rattle.std.proofs.lemmas.Iterator.Consumers.{YieldsList-so_far, YieldsList-turn, YieldsList-end}
use Rattle.std.proofs.lemmas.Iterator.Adapters.{YieldsList-from_vec}
use Rattle.std.proofs.lemmas.List.{map-id}
use Rattle.siman_plans.specs.declared.source.SourceLine.{SourceLine}
use Rattle.siman_plans.proofs.Lines.{GoesOn, all_stop, all_done, split_at}
use Rattle.siman_plans.proofs.planner.Planner.run.Goals as goal

pub returns-in-Err : goal.returns-in-Err
returns-in-Err c = λ w d h.
    let xs = c.args.lines.items in
    let ys = c.loop-line.yielded in
    let y = c.in-Some.line in
    let road = YieldsList-from_vec {s = c.into_iter-line-iterator.result} xs (search rules) (search rules) in
    let before = YieldsList-so_far road ys c.loop-line.line-iterator c.loop-line.yielded_by in
    let turn = YieldsList-turn road ys c.loop-line.line-iterator c.loop-line.yielded_by c.next.result c.next.new.self y c.in-Some.is c.next.ensures.steps in
    let g = c.loop-line.invariant w d h in
    all_stop (Unit {0}) w d xs ys y (drop (suc (length ys)) xs) c.loop-line.self c.take.new.self g c.in-Err.fault (split_at xs ys y before turn)
    (c.in-Err.ensures w g.0 g.1)

pub returns : goal.returns
returns c = λ w d h.
    let xs = c.args.lines.items in
    let road = YieldsList-from_vec {s = c.into_iter-line-iterator.result} xs (search rules) (search rules) in
    let end = YieldsList-end road c.loop-line.yielded c.loop-line.line-iterator c.loop-line.yielded_by c.next.result c.next.new.self
    c.in-None.is c.next.ensures.steps in
    all_done w d xs c.loop-line.self
    (subst (λ (ys : List SourceLine). GoesOn w d ys c.loop-line.self) (sym (map-id c.loop-line.yielded) ∙ end.0) (c.loop-line.invariant w d h))
