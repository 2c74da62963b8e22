use Rattle.std.proofs.Common.{sym, ap, ◌∙◌, arith}
use Rattle.std.specs.Prelude.{unwrap_or}
use Rattle.exercise_review.specs.Register.{holds}
use Rattle.exercise_review.proofs.FirstOnes.{passes_before, none_before, back_starts, back_fails, back_ends}
use Rattle.exercise_review.proofs.Walks.{past, on_last, lower}
use Rattle.exercise_review.proofs.entry_chains.is_first_with_key.Goals as goal

pub loop-next-init : goal.loop-next-init
loop-next-init g c =
    let h = holds (g.K.EntryKeys.keys c.args.keying.now) (unwrap_or (g.K.EntryKeys.keys c.args.keying.now c.args.entry) 0) in
    let f = g.Q.Question.test c.args.question.now in
    let behind = c.entry_before-next.ensures (g.K.EntryKeys.keys c.args.keying.now) c.args.end _ c.requires.tied c.requires.within (c.requires.under c.args.entry c.requires.passes) in
    record {
      on = on_last h c.args.entry c.args.entry c.entry_before-next.result behind (omega arith);
      back = back_starts f h c.args.entry c.entry_before-next.result c.requires.under behind;
    }

pub returns-then-passes : goal.returns-then-passes
returns-then-passes g c =
    let at = rw c.in-Some.is at c.loop-next.invariant.on in
    passes_before (g.Q.Question.test c.args.question.now) c.args.end c.args.entry c.in-Some.at at.0 (sym c.passes.ensures ∙ c.if-passes.true)

pub loop-next-smaller : goal.loop-next-smaller
loop-next-smaller g c =
    let h = holds (g.K.EntryKeys.keys c.args.keying.now) (unwrap_or (g.K.EntryKeys.keys c.args.keying.now c.args.entry) 0) in
    let at = rw c.in-Some.is at c.loop-next.invariant.on in
    let less = lower h c.in-Some.at c.entry_before-next-in-Some.result (c.entry_before-next-in-Some.ensures (g.K.EntryKeys.keys c.args.keying.now) c.args.end _ c.requires.tied (omega (arith, at.0, c.requires.within)) at.1) in
    omega (arith, less, ap past c.in-Some.is)

pub loop-next-preserved : goal.loop-next-preserved
loop-next-preserved g c =
    let h = holds (g.K.EntryKeys.keys c.args.keying.now) (unwrap_or (g.K.EntryKeys.keys c.args.keying.now c.args.entry) 0) in
    let f = g.Q.Question.test c.args.question.now in
    let at = rw c.in-Some.is at c.loop-next.invariant.on in
    record {
      on = on_last h c.args.entry c.in-Some.at c.entry_before-next-in-Some.result (c.entry_before-next-in-Some.ensures (g.K.EntryKeys.keys c.args.keying.now) c.args.end _ c.requires.tied (omega (arith, at.0, c.requires.within)) at.1) (omega (arith, at.0));
      back = back_fails f h c.args.entry c.in-Some.at c.entry_before-next-in-Some.result c.requires.under (c.entry_before-next-in-Some.ensures (g.K.EntryKeys.keys c.args.keying.now) c.args.end _ c.requires.tied (omega (arith, at.0, c.requires.within)) at.1)
          (sym c.passes.ensures ∙ c.if-passes.false) (rw c.in-Some.is at c.loop-next.invariant.back);
    }

pub returns : goal.returns
returns g c =
    let f = g.Q.Question.test c.args.question.now in
    none_before f c.args.end c.args.entry c.requires.within c.requires.passes (back_ends f c.args.entry (rw c.in_default.is at c.loop-next.invariant.back))
