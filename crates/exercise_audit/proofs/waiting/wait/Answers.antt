use Rattle.std.proofs.Common.{rules, ◌++◌, ◌∷◌, [], ap, ◌∙◌}
use Rattle.exercise_audit.proofs.Waiters.{joined, kept, had, unchanged, on_err}
use Rattle.exercise_audit.proofs.waiting.wait.Goals as goal

pub returns-clause-joins : goal.returns-clause-joins
returns-clause-joins c =
    let i = c.args.entry in
    let was = had c.args.waiting.now i _ c.new.result c.or_insert.result.now c.new.ensures.items c.in_ok-waiting.ensures.value c.or_insert.ensures.value in
    joined c.args.waiting.now _ i c.push.new.self (c.args.station ∷ []) (search (c.in_ok-waiting.ensures.update.0, rules))
    (c.in_ok-push.ensures.items ∙ ap (λ ys. ys ++ c.args.station ∷ []) was)

pub returns-in_err-push-clause-failed : goal.returns-in_err-push-clause-failed
returns-in_err-push-clause-failed c =
    let i = c.args.entry in
    let was = had c.args.waiting.now i _ c.new.result c.or_insert.result.now c.new.ensures.items c.in_ok-waiting.ensures.value c.or_insert.ensures.value in
    on_err _ _ (kept c.args.waiting.now _ i c.push.new.self (search (c.in_ok-waiting.ensures.update.0, rules)) (search rules ∙ was))

pub returns-in_err-waiting-clause-failed : goal.returns-in_err-waiting-clause-failed
returns-in_err-waiting-clause-failed c = on_err _ _ (unchanged c.args.waiting.now _ (search rules))
