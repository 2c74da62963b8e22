use Rattle.std.proofs.Common.{◌≡◌, true, false, length, sym, ap, ◌∙◌, subst, arith}
use Rattle.std.specs.Prelude.{slice_get}
use Rattle.exercise_findings.specs.Slots.{home, slot_behind, HasSlot}
use Rattle.exercise_findings.proofs.Standing.{slot_there, slot_on-none, slot_on-next, passed_none, passed_more, absent_free}
use Rattle.exercise_findings.proofs.slots.find.Goals as goal
use Rattle.exercise_findings.proofs.slots.find.Goals.{in-Under+else-is_sought, in-Other}

pub loop-step-init : goal.loop-step-init
loop-step-init g c =
    let slots = c.args.slots.now.slots in
    let count : c.count-count.result ≡ length slots = omega (arith, c.count-count.ensures) in
    record {
      at = c.home-place.ensures.value ∙ ap (λ n. home n c.args.hash) count ∙ sym (slot_on-none (length slots) c.args.hash);
      within = omega (arith, c.home-place.ensures.within, c.count-count.ensures);
      passed = passed_none slots c.args.hash (g.S.Sought.is_sought c.args.sought.now);
    }

pub returns-in-Free-clause-absent : goal.returns-in-Free-clause-absent
returns-in-Free-clause-absent g c =
    let slots = c.args.slots.now.slots in
    let there = slot_there slots c.loop-step.place c.loop-step.invariant.within in
    absent_free slots c.args.hash (g.S.Sought.is_sought c.args.sought.now) c.loop-step._step there.0 c.loop-step.invariant.passed
    (ap (slice_get slots) (sym c.loop-step.invariant.at) ∙ there.1) (c.in-Free.ensures there.0 there.1)

pub is_sought-requires : goal.is_sought-requires
is_sought-requires g c =
    let slots = c.args.slots.now.slots in
    let there = slot_there slots c.loop-step.place c.loop-step.invariant.within in
    let s = there.0 in
    let looks = c.in-Under.ensures s there.1 in
    subst (λ e. g.S.Sought.is_known c.args.sought.now e ≡ true) looks.2
    (c.requires s.entry (c.loop-step.place, s.hash, record { at = there.1; some = looks.0 }))

pub returns-then-is_sought-clause-found : goal.returns-then-is_sought-clause-found
returns-then-is_sought-clause-found g c =
    let slots = c.args.slots.now.slots in
    let there = slot_there slots c.loop-step.place c.loop-step.invariant.within in
    let s = there.0 in
    let looks = c.in-Under.ensures s there.1 in
    let stands : HasSlot slots s.entry = (c.loop-step.place, s.hash, record { at = there.1; some = looks.0 }) in
    (subst (HasSlot slots) looks.2 stands, sym c.is_sought.ensures ∙ c.if-is_sought.true)

pub loop-step-preserved : goal.loop-step-preserved
loop-step-preserved g c =
    let slots = c.args.slots.now.slots in
    let place = c.loop-step.place in
    let there = slot_there slots place c.loop-step.invariant.within in
    let s = there.0 in
    let is = g.S.Sought.is_sought c.args.sought.now in
    let count : c.count-count.result ≡ length slots = omega (arith, c.count-count.ensures) in
    record {
      at = c.slot_behind-place.ensures.value ∙ ap (λ n. slot_behind n place) count
          ∙ ap (slot_behind (length slots)) c.loop-step.invariant.at ∙ sym (slot_on-next (length slots) c.args.hash c.loop-step._step);
      within = omega (arith, c.slot_behind-place.ensures.within, c.count-count.ensures);
      passed = passed_more slots c.args.hash is c.loop-step._step s c.loop-step.invariant.passed
          (ap (slice_get slots) (sym c.loop-step.invariant.at) ∙ there.1)
          (elim c.match-look.branch as (λ _. s.hash ≡ c.args.hash → is s.entry ≡ false) [
            | in-Under+else-is_sought w ↦ λ _. ap is (w.in-Under.ensures s there.1).2 ∙ sym w.is_sought.ensures ∙ w.if-is_sought.false
            | in-Other w ↦ λ same. absurd ((w.in-Other.ensures s there.1).1 same)
          ]);
    }
