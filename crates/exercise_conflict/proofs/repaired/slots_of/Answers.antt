use Rattle.std.proofs.Common.{◌++◌, ◌∷◌, sym, ap, ◌∙◌}
use Rattle.exercise_conflict.specs.Repair.{kept, slots_after, slots_below}
use Rattle.exercise_conflict.proofs.Counted.{slots_none, slots_more}
use Rattle.exercise_conflict.proofs.repaired.slots_of.Goals as goal

pub loop-entry-init : goal.loop-entry-init
loop-entry-init c = c.in_ok-slots.ensures ∙ sym (slots_none c.args.lacks.now)

pub loop-entry-preserved : goal.loop-entry-preserved
loop-entry-preserved c =
    let n = c.loop-entry.entry in
    c.in_ok-add_entry.ensures
    ∙ ap (λ xs. xs ++ kept n ∷ slots_after c.in_ok-places.places n) c.loop-entry.invariant
    ∙ ap (λ ys. slots_below c.args.lacks.now n ++ kept n ∷ ys) (c.in_ok-places.ensures n)
    ∙ sym (slots_more c.args.lacks.now n)
