use Rattle.std.proofs.Common.{◌≡◌, ◌+◌, sym, ◌∙◌, subst, arith}
use Rattle.exercise_model.specs.Stamps.{stamp_before}
use Rattle.exercise_audit.proofs.InOrder.{RisesBelow, rises_none, rises_more, past_here, stamp_none, risen_is, fallen_is, never_falls, falls}
use Rattle.exercise_audit.proofs.first_entries.stamps_never_fall.Goals as goal

pub loop-entry-init : goal.loop-entry-init
loop-entry-init g c = let r = g.L.ExerciseLog.recording c.args.log.now in record { last = stamp_none r; rises = rises_none r }

pub loop-entry-preserved : goal.loop-entry-preserved
loop-entry-preserved g c =
    let r = g.L.ExerciseLog.recording c.args.log.now in
    let n = c.loop-entry.entry in
    let is = risen_is c.loop-entry.last _ c.in-Some.stamp (sym c.risen.ensures ∙ c.in-Some.is) in
    let here : c.in-Some.stamp ≡ stamp_before r.entries (n + 1) =
    is.is ∙ past_here r n c.loop-entry.last _ c.entry.ensures.entry c.loop-entry.invariant.last in
    record {
      last = here;
      rises = rises_more r n c.loop-entry.invariant.rises (omega (arith, is.rises, c.loop-entry.invariant.last, here));
    }

pub returns-in-None-clause-fall : goal.returns-in-None-clause-fall
returns-in-None-clause-fall g c = λ _.
    let r = g.L.ExerciseLog.recording c.args.log.now in
    let n = c.loop-entry.entry in
    let less = fallen_is c.loop-entry.last _ (sym c.risen.ensures ∙ c.in-None.is) in
    let here = past_here r n c.loop-entry.last _ c.entry.ensures.entry c.loop-entry.invariant.last in
    falls r n (omega (arith, c.loop-entry-test.true, c.loop-entry.auto.entry-end, c.entry_count-entry-end.ensures.count))
    (omega (arith, less, here, c.loop-entry.invariant.last))

pub returns-clause-never : goal.returns-clause-never
returns-clause-never g c = λ _.
    let r = g.L.ExerciseLog.recording c.args.log.now in
    never_falls r (subst (RisesBelow r) (omega (arith, c.loop-entry-test.false, c.loop-entry.auto.entry-end, c.entry_count-entry-end.ensures.count)) c.loop-entry.invariant.rises)
