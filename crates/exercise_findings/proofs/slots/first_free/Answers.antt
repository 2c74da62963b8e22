use Rattle.std.proofs.Common.{◌≡◌, length, sym, ap, ◌∙◌, arith}
use Rattle.std.specs.Prelude.{slice_get}
use Rattle.std.proofs.lemmas.Bool.{eq-eqb, eqb-true, true≢false}
use Rattle.exercise_findings.specs.Slots.{home, slot_behind}
use Rattle.exercise_findings.proofs.Standing.{slot_on-none, slot_on-next, taken_none, taken_more, free_here, slot_there}
use Rattle.exercise_findings.proofs.slots.first_free.Goals as goal

pub loop-step-init : goal.loop-step-init
loop-step-init c =
    let slots = c.args.slots.now in
    let count : c.count-count.result ≡ length slots = omega (arith, c.count-count.ensures) in
    record {
      at = c.home-place.ensures.value ∙ ap (λ n. home n c.args.hash) count ∙ sym (slot_on-none (length slots) c.args.hash);
      within = omega (arith, c.home-place.ensures.within, c.count-count.ensures);
      taken = taken_none slots c.args.hash;
    }

pub returns-then-is_free : goal.returns-then-is_free
returns-then-is_free c =
    let slots = c.args.slots.now in
    let place = c.loop-step.place in
    let at = slot_there slots place c.loop-step.invariant.within in
    let s = at.0 in
    record {
      steps = c.loop-step._step;
      near = omega (arith, c.loop-step-test.true, c.loop-step.auto._step-end, c.count-count.ensures);
      at = c.loop-step.invariant.at;
      within = c.loop-step.invariant.within;
      free = free_here slots place s at.1 (eqb-true s.entry 4294967295 (sym (c.is_free.ensures s at.1) ∙ c.if-is_free.true));
      taken = c.loop-step.invariant.taken;
    }

pub loop-step-preserved : goal.loop-step-preserved
loop-step-preserved c =
    let slots = c.args.slots.now in
    let place = c.loop-step.place in
    let there = slot_there slots place c.loop-step.invariant.within in
    let s = there.0 in
    let count : c.count-count.result ≡ length slots = omega (arith, c.count-count.ensures) in
    record {
      at = c.slot_behind-place.ensures.value ∙ ap (λ n. slot_behind n place) count
          ∙ ap (slot_behind (length slots)) c.loop-step.invariant.at ∙ sym (slot_on-next (length slots) c.args.hash c.loop-step._step);
      within = omega (arith, c.slot_behind-place.ensures.within, c.count-count.ensures);
      taken = taken_more slots c.args.hash c.loop-step._step s c.loop-step.invariant.taken
          (ap (slice_get slots) (sym c.loop-step.invariant.at) ∙ there.1)
          (λ free. true≢false (sym (c.is_free.ensures s there.1 ∙ eq-eqb s.entry 4294967295 free) ∙ c.if-is_free.false));
    }
