use Rattle.std.proofs.Common.{refl, ◌∙◌}
use Rattle.siman_operator.proofs.Going.{goes_none, goes_then}
use Rattle.siman_operator.proofs.Taking.{none_taken, one_taken, last_taken}
use Rattle.siman_operator.proofs.post.Post.take_turns.Goals as goal

pub loop-init : goal.loop-init
loop-init g c = (none_taken _ _ _ _ _ c.none-trouble.ensures, (refl, refl, refl), goes_none _)

pub loop-preserved : goal.loop-preserved
loop-preserved g c =
    let so_far = c.loop.invariant in
    let turn = c.serve_once-turn.ensures in (
      one_taken _ _ _ _ _ _ _ _ _ _ _ _ so_far.0 (rw so_far.1.1 at turn.ends) c.after-trouble.ensures (cc (c.is_followed.ensures, c.if-not-is_followed.false)),
      (turn.time.0 ∙ so_far.1.0, turn.time.1 ∙ so_far.1.1, turn.time.2 ∙ so_far.1.2),
      goes_then _ _ _ so_far.2 turn.goes,
    )

pub returns-then-not-is_followed-clause-ends : goal.returns-then-not-is_followed-clause-ends
returns-then-not-is_followed-clause-ends g c =
    last_taken _ _ _ _ _ _ _ _ _ _ _ _ c.loop.invariant.0 (rw c.loop.invariant.1.1 at c.serve_once-turn.ensures.ends) c.after-trouble.ensures (cc (
      c.is_followed.ensures,
      c.if-not-is_followed.true,
    )) c.loop-test.true

pub returns-then-not-is_followed-clause-time : goal.returns-then-not-is_followed-clause-time
returns-then-not-is_followed-clause-time g c =
    let turn = c.serve_once-turn.ensures in (turn.time.0 ∙ c.loop.invariant.1.0, turn.time.1 ∙ c.loop.invariant.1.1, turn.time.2 ∙ c.loop.invariant.1.2)

pub returns-then-not-is_followed-clause-goes : goal.returns-then-not-is_followed-clause-goes
returns-then-not-is_followed-clause-goes g c = goes_then _ _ _ c.loop.invariant.2 c.serve_once-turn.ensures.goes
