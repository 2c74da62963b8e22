use Rattle.std.proofs.Common.{List, length, subst, ◌+◌, ◌≤◌}
use Rattle.siman_tests.proofs.uses.manager.sends_nothing_too_often.Goals as goal

pub returns : goal.returns
returns c = λ past k some requests.
    let s = c.args.manager.now.settings in
    subst (λ (sent : List _). length sent ≤ s.tries) (c.orders_are_kept.ensures.sends s past requests k)
    (c.orders_are_kept.ensures.tries s past some requests (s.first_id + k))
