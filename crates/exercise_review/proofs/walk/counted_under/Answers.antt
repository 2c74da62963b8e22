use Rattle.std.proofs.Common.{◌≤◌, ◌+◌, ℕ, length, sym, ap, ◌∙◌, subst, arith}
use Rattle.exercise_model.specs.Recording.{PlainRecording}
use Rattle.exercise_review.specs.Register.{has_key}
use Rattle.exercise_review.proofs.Walks.{past, IsCountOn, IsFirstOn, on_last, lower, count_starts, count_passes, count_fails, count_ends, first_starts, first_passes, first_fails, first_ends}
use Rattle.exercise_review.proofs.walk.counted_under.Goals.{then-passes, else-passes}
use Rattle.exercise_review.proofs.walk.counted_under.Goals as goal

pub loop-next-init : goal.loop-next-init
loop-next-init g c =
    let r : PlainRecording = c.args.register.now in
    let h = has_key r c.args.key in
    let less = lower h (length r.entries) c.last_under-next.result c.last_under-next.ensures in
    record {
      on = on_last h (length r.entries) (length r.entries) c.last_under-next.result c.last_under-next.ensures (omega arith);
      count = count_starts (g.Q.Question.test c.args.question.now) h (length r.entries) c.last_under-next.result c.requires c.last_under-next.ensures;
      first = first_starts (g.Q.Question.test c.args.question.now) h (length r.entries) c.last_under-next.result c.requires c.last_under-next.ensures;
      room = omega (arith, less);
    }

pub overflow_add-count : goal.overflow_add-count
overflow_add-count g c =
    let room = rw c.in-Some.is at c.loop-next.invariant.room in
    let end = c.entry_count-end.ensures.count ∙ ap (λ (r : PlainRecording). length r.entries) c.log.ensures in
    omega (arith, room, end, c.entry_count-end.type_inv)

pub loop-next-smaller : goal.loop-next-smaller
loop-next-smaller g c =
    let less = lower (has_key c.args.register.now c.args.key) c.in-Some.entry c.before-next.result c.before-next.ensures in
    omega (arith, less, ap past c.in-Some.is)

pub loop-next-preserved : goal.loop-next-preserved
loop-next-preserved g c =
    let r : PlainRecording = c.args.register.now in
    let f = g.Q.Question.test c.args.question.now in
    let h = has_key r c.args.key in
    let n : ℕ = length r.entries in
    let at = rw c.in-Some.is at c.loop-next.invariant.on in
    let counted = rw c.in-Some.is at c.loop-next.invariant.count in
    let so_far = rw c.in-Some.is at c.loop-next.invariant.first in
    let room = rw c.in-Some.is at c.loop-next.invariant.room in
    let less = lower h c.in-Some.entry c.before-next.result c.before-next.ensures in
    record {
      on = on_last h n c.in-Some.entry c.before-next.result c.before-next.ensures (omega (arith, at.0));
      count = elim c.if-passes.branch as (λ _. IsCountOn f n c.before-next.result c.if-passes.count) [
        | then-passes w ↦
            subst (IsCountOn f n c.before-next.result) (sym w.count-is)
            (count_passes f h n c.in-Some.entry c.loop-next.count c.before-next.result c.requires c.before-next.ensures (sym c.passes.ensures ∙ w.if-passes.true) counted)
        | else-passes w ↦
            subst (IsCountOn f n c.before-next.result) (sym w.count-is)
            (count_fails f h n c.in-Some.entry c.loop-next.count c.before-next.result c.requires c.before-next.ensures (sym c.passes.ensures ∙ w.if-passes.false) counted)
      ];
      first = elim c.if-passes.branch as (λ _. IsFirstOn f n c.before-next.result c.if-passes.found) [
        | then-passes w ↦
            subst (IsFirstOn f n c.before-next.result) (sym w.found-is)
            (first_passes f h n c.in-Some.entry c.before-next.result c.loop-next.found c.requires c.before-next.ensures (sym c.passes.ensures ∙ w.if-passes.true) so_far)
        | else-passes w ↦
            subst (IsFirstOn f n c.before-next.result) (sym w.found-is)
            (first_fails f h n c.in-Some.entry c.before-next.result c.loop-next.found c.requires c.before-next.ensures (sym c.passes.ensures ∙ w.if-passes.false) so_far)
      ];
      room = elim c.if-passes.branch as (λ _. past c.before-next.result + c.if-passes.count ≤ n) [
        | then-passes w ↦ omega (arith, less, room, w.count-is)
        | else-passes w ↦ omega (arith, less, room, w.count-is)
      ];
    }

pub returns-clause-count : goal.returns-clause-count
returns-clause-count g c =
    count_ends (g.Q.Question.test c.args.question.now) (length c.args.register.now.entries) c.loop-next.count (rw c.in_default.is at c.loop-next.invariant.count)

pub returns-clause-first : goal.returns-clause-first
returns-clause-first g c =
    first_ends (g.Q.Question.test c.args.question.now) (length c.args.register.now.entries) c.loop-next.found (rw c.in_default.is at c.loop-next.invariant.first)
