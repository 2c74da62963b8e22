use Rattle.std.proofs.Common.{ℕ, length, sym, ap, ◌∙◌, arith}
use Rattle.exercise_model.specs.Recording.{PlainRecording}
use Rattle.exercise_review.specs.Register.{has_key}
use Rattle.exercise_review.proofs.Walks.{past, on_last, lower, last_starts, last_passes, last_fails, last_ends}
use Rattle.exercise_review.proofs.walk.last_under.Goals as goal

pub loop-next-init : goal.loop-next-init
loop-next-init g c =
    let r : PlainRecording = c.args.register.now in
    let h = has_key r c.args.key in
    record {
      on = on_last h (length r.entries) (length r.entries) c.last_under-next.result c.last_under-next.ensures (omega arith);
      last = last_starts (g.Q.Question.test c.args.question.now) h (length r.entries) c.last_under-next.result c.requires c.last_under-next.ensures;
    }

pub returns-then-passes-clause-last : goal.returns-then-passes-clause-last
returns-then-passes-clause-last g c =
    last_passes (g.Q.Question.test c.args.question.now) (length c.args.register.now.entries) c.in-Some.entry (sym c.passes.ensures ∙ c.if-passes.true)
    (rw c.in-Some.is at c.loop-next.invariant.last)

pub loop-next-smaller : goal.loop-next-smaller
loop-next-smaller g c =
    let less = lower (has_key c.args.register.now c.args.key) c.in-Some.entry c.before-next.result c.before-next.ensures in
    omega (arith, less, ap past c.in-Some.is)

pub loop-next-preserved : goal.loop-next-preserved
loop-next-preserved g c =
    let r : PlainRecording = c.args.register.now in
    let h = has_key r c.args.key in
    let n : ℕ = length r.entries in
    let at = rw c.in-Some.is at c.loop-next.invariant.on in
    record {
      on = on_last h n c.in-Some.entry c.before-next.result c.before-next.ensures (omega (arith, at.0));
      last = last_fails (g.Q.Question.test c.args.question.now) h n c.in-Some.entry c.before-next.result c.requires c.before-next.ensures
          (sym c.passes.ensures ∙ c.if-passes.false) (rw c.in-Some.is at c.loop-next.invariant.last);
    }

pub returns-clause-last : goal.returns-clause-last
returns-clause-last g c =
    last_ends (g.Q.Question.test c.args.question.now) (length c.args.register.now.entries) (rw c.in_default.is at c.loop-next.invariant.last)
