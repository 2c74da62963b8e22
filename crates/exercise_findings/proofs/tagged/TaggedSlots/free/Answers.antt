use Rattle.std.proofs.Common.{map, sym, ap, ◌∙◌}
use Rattle.exercise_findings.specs.Slots.{free_slot, tag_in}
use Rattle.exercise_findings.proofs.Standing.{map_replicate}
use Rattle.exercise_findings.proofs.tagged.TaggedSlots.free.Goals as goal

pub invariant_of-result : goal.invariant_of-result
invariant_of-result c =
    c.in_ok-tags.ensures.items_if_clones_equal (λ y same. same) ∙ sym (map_replicate tag_in c.args.count free_slot) ∙ ap (map tag_in) (sym (c.in_ok-slots.ensures.items_if_clones_equal (λ y same. same)))
