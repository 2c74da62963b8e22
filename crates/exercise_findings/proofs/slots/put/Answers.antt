use Rattle.std.proofs.Common.{sym, subst}
use Rattle.exercise_findings.specs.Slots.{IsReached, HasSlot}
use Rattle.exercise_findings.specs.declared.slots.Slot.{Slot}
use Rattle.std.proofs.Common.{List}
use Rattle.exercise_findings.proofs.Standing.{reached_put, reached_kept, stands_put}
use Rattle.exercise_findings.proofs.slots.put.Goals as goal

pub put-requires-clause-within : goal.put-requires-clause-within
put-requires-clause-within c = c.in-Some.ensures.within

pub returns-in-Some-clause-reached : goal.returns-in-Some-clause-reached
returns-in-Some-clause-reached c =
    subst (λ (slots : List Slot). IsReached slots c.args.hash c.args.entry) (sym c.put.ensures)
    (reached_put c.args.slots.now c.args.hash c.in-Some.place c.args.entry c.in-Some.ensures c.requires.some)

pub returns-in-Some-clause-kept : goal.returns-in-Some-clause-kept
returns-in-Some-clause-kept c h e reached =
    subst (λ (slots : List Slot). IsReached slots h e) (sym c.put.ensures)
    (reached_kept c.args.slots.now c.args.hash c.in-Some.place h e (record { hash = c.args.hash; entry = c.args.entry }) c.in-Some.ensures reached)

pub returns-in-Some-clause-only : goal.returns-in-Some-clause-only
returns-in-Some-clause-only c e stands =
    stands_put c.args.slots.now c.args.hash c.in-Some.place c.args.entry c.in-Some.ensures.within e
    (subst (λ (slots : List Slot). HasSlot slots e) c.put.ensures stands)
