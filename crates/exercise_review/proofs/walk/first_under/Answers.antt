use Rattle.std.proofs.Common.{◌<◌, ℕ, length, Option, sym, ap, ◌∙◌, subst, arith}
use Rattle.std.specs.Prelude.{IfSome}
use Rattle.exercise_model.specs.Recording.{PlainRecording}
use Rattle.exercise_review.specs.Register.{has_key}
use Rattle.exercise_review.proofs.Walks.{past, IsFirstOn, on_last, lower, first_starts, first_passes, first_fails, first_ends}
use Rattle.exercise_review.proofs.walk.first_under.Goals.{then-passes, else-passes}
use Rattle.exercise_review.proofs.walk.first_under.Goals as goal

pub loop-next-init : goal.loop-next-init
loop-next-init g c =
    let r : PlainRecording = c.args.register.now in
    let h = has_key r c.args.key in
    record {
      on = on_last h (length r.entries) (length r.entries) c.last_under-next.result c.last_under-next.ensures (omega arith);
      first = first_starts (g.Q.Question.test c.args.question.now) h (length r.entries) c.last_under-next.result c.requires c.last_under-next.ensures;
      within = tt;
    }

pub loop-next-smaller : goal.loop-next-smaller
loop-next-smaller g c =
    let less = lower (has_key c.args.register.now c.args.key) c.in-Some.entry c.before-next.result c.before-next.ensures in
    omega (arith, less, ap past c.in-Some.is)

pub loop-next-preserved : goal.loop-next-preserved
loop-next-preserved g c =
    let r : PlainRecording = c.args.register.now in
    let f = g.Q.Question.test c.args.question.now in
    let h = has_key r c.args.key in
    let n : ℕ = length r.entries in
    let at = rw c.in-Some.is at c.loop-next.invariant.on in
    let so_far = rw c.in-Some.is at c.loop-next.invariant.first in
    record {
      on = on_last h n c.in-Some.entry c.before-next.result c.before-next.ensures (omega (arith, at.0));
      first = elim c.if-passes.branch as (λ _. IsFirstOn f n c.before-next.result c.if-passes.first) [
        | then-passes w ↦
            subst (IsFirstOn f n c.before-next.result) (sym w.first-is)
            (first_passes f h n c.in-Some.entry c.before-next.result c.loop-next.first c.requires c.before-next.ensures (sym c.passes.ensures ∙ w.if-passes.true) so_far)
        | else-passes w ↦
            subst (IsFirstOn f n c.before-next.result) (sym w.first-is)
            (first_fails f h n c.in-Some.entry c.before-next.result c.loop-next.first c.requires c.before-next.ensures (sym c.passes.ensures ∙ w.if-passes.false) so_far)
      ];
      within = elim c.if-passes.branch as (λ _. IfSome c.if-passes.first (λ entry. entry < n)) [
        | then-passes w ↦ subst (λ (x : Option ℕ). IfSome x (λ entry. entry < n)) (sym w.first-is) at.0
        | else-passes w ↦ subst (λ (x : Option ℕ). IfSome x (λ entry. entry < n)) (sym w.first-is) c.loop-next.invariant.within
      ];
    }

pub returns-clause-first : goal.returns-clause-first
returns-clause-first g c =
    let f = g.Q.Question.test c.args.question.now in
    first_ends f (length c.args.register.now.entries) c.loop-next.first (rw c.in_default.is at c.loop-next.invariant.first)
