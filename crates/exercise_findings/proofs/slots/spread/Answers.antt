use Rattle.exercise_findings.specs.declared.slots.Slot.{Slot}
use Rattle.std.proofs.Common.{◌≡◌, ℕ, List, length, sym, ◌∙◌, subst, ⊎_elim, arith}
use Rattle.std.specs.Prelude.{◌≢◌}
use Rattle.std.proofs.lemmas.Option.{slice_get_within}
use borrow.Author.Count.{below_more}
use Rattle.exercise_findings.specs.Slots.{slot_on, HasEntry, IsReached, HasSlot}
use Rattle.exercise_findings.proofs.Standing.{one_slot, none_stands}
use Rattle.exercise_findings.proofs.slots.spread.Goals as goal

pub loop-place-preserved : goal.loop-place-preserved
loop-place-preserved c =
    let from = c.args.from.now in
    let was = c.loop-place.to in
    let to = c.put_slot.new.slots in
    let place = c.loop-place.place in
    let s = c.slot.result in
    let put = c.in_ok-put_slot.ensures in
    let at = c.slot.ensures in
    record {
      kept = below_more (λ (i : ℕ). (h e : ℕ) → HasEntry from i h e → IsReached to h e) place
          (λ i l h e has. put.kept h e (c.loop-place.invariant.kept i l h e has))
          (λ h e has.
          let one = one_slot from place h e s has at in
          subst (λ x. IsReached to x e) (sym one.0) (subst (IsReached to s.hash) (sym one.1) (put.reached (λ none. has.some (one.1 ∙ none)))));
      only = λ e stands. ⊎_elim
          (λ (stood : HasSlot was e). c.loop-place.invariant.only e stood)
          (λ (new : (e ≡ s.entry) × (e ≢ 4294967295)).
          (place, s.hash, subst (HasEntry from place s.hash) (sym new.0) (record { at = at; some = λ none. new.1 (new.0 ∙ none) })))
          (put.only e stands);
    }

pub returns-clause-kept : goal.returns-clause-kept
returns-clause-kept c h e reached =
    let from = c.args.from.now in
    let i = slot_on (length from) h reached.steps in
    c.loop-place.invariant.kept i
    (omega (arith, slice_get_within from i _ reached.here.at, c.loop-place-test.false, c.loop-place.auto.place-end, c.count-place-end.ensures)) h e reached.here

pub loop-place-init : goal.loop-place-init
loop-place-init c = record {
  kept = λ i l h e has. absurd (omega (arith, l));
  only = λ e stands. none_stands c.args.count e (subst (λ (slots : List Slot). HasSlot slots e) c.in_ok-to.ensures stands) (HasSlot c.args.from.now e);
}
