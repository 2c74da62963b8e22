use Rattle.std.proofs.Common.{ℕ, ◌≤◌, subst}
use Rattle.exercise_model.specs.declared.recording.TheConstants.{MOST_ENTRIES}
use Rattle.siman_plans.proofs.Moves.{sends_some, sends_none}
use Rattle.siman_plans.proofs.plan_move.make_move.Goals as goal

pub returns-then-before-sent_count : goal.returns-then-before-sent_count
returns-then-before-sent_count c = λ w ms h.
    let after = c.in_ok-make.ensures.after w ms h in (
      after,
      c.in_ok-make.ensures.made w ms h,
      sends_some w ms c.args.step _ _ (c.sent_count-before.ensures w ms h).0
          (c.sent_count.ensures w _ after).0 c.if-before-sent_count.true,
      subst (λ (n : ℕ). n ≤ MOST_ENTRIES) (c.sent_count.ensures w _ after).0 (c.sent_count.ensures w _ after).1,
    )

pub returns-else-before-sent_count : goal.returns-else-before-sent_count
returns-else-before-sent_count c = λ w ms h.
    let after = c.in_ok-make.ensures.after w ms h in (
      after,
      c.in_ok-make.ensures.made w ms h,
      sends_none w ms c.args.step _ _ (c.sent_count-before.ensures w ms h).0
          (c.sent_count.ensures w _ after).0 c.if-before-sent_count.false,
      subst (λ (n : ℕ). n ≤ MOST_ENTRIES) (c.sent_count.ensures w _ after).0 (c.sent_count.ensures w _ after).1,
    )
