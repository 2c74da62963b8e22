-- One entry more is counted, or one that means something ends it.
use Rattle.std.proofs.Common.{◌≡◌, ℕ, ◌<◌, length, Some, None, refl, sym, ap, ◌∙◌, arith}
use Rattle.exercise_model.specs.Held.{shown}
use Rattle.siman_outside.specs.Notes.{entry_count}
use Rattle.siman_outside.proofs.Counted.{one_more, one_means, at_most_one}
use Rattle.siman_outside.proofs.notes.meaningless_count.Goals as goal

pub loop-index-init : goal.loop-index-init
loop-index-init g c = (refl, omega arith)

pub loop-index-preserved : goal.loop-index-preserved
loop-index-preserved g c =
    let r = g.L.ExerciseLog.recording c.args.log.now in
    let e = shown c.entry.result in
    let within : c.loop-index.index < length r.entries = omega (arith, c.loop-index-test.true, c.entry_count-index-end.ensures.count) in
    let count : entry_count r.setting.exercise e ≡ Some c.in-Some.count = sym (ap (λ (x : ℕ). entry_count x e) c.exercise-exercise.ensures) ∙ sym c.entry_count.ensures ∙ c.in-Some.is in
    let few = at_most_one r.setting.exercise e c.in-Some.count count in
    let so_far = c.loop-index.invariant.1 in (
      one_more r.setting.exercise r.entries c.loop-index.index e c.loop-index.datagrams c.in-Some.count within c.entry.ensures.entry c.loop-index.invariant.0 count,
      omega (arith, few, so_far),
    )

pub returns-in-None : goal.returns-in-None
returns-in-None g c =
    let r = g.L.ExerciseLog.recording c.args.log.now in
    let e = shown c.entry.result in
    let within : c.loop-index.index < length r.entries = omega (arith, c.loop-index-test.true, c.entry_count-index-end.ensures.count) in
    let count : entry_count r.setting.exercise e ≡ None = sym (ap (λ (x : ℕ). entry_count x e) c.exercise-exercise.ensures) ∙ sym c.entry_count.ensures ∙ c.in-None.is in
    sym (one_means r.setting.exercise r.entries c.loop-index.index e c.loop-index.datagrams within c.entry.ensures.entry c.loop-index.invariant.0 count)
