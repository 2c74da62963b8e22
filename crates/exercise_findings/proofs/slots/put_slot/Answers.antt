use Rattle.std.proofs.Common.{◌≡◌, sym, ◌∙◌, ⊎_elim, inl, inr}
use Rattle.exercise_findings.specs.Slots.{HasSlot}
use Rattle.exercise_findings.proofs.Columns.{on_ok}
use Rattle.exercise_findings.proofs.slots.put_slot.Goals as goal

pub returns-else-slot-eq-NO_ENTRY-clause-only : goal.returns-else-slot-eq-NO_ENTRY-clause-only
returns-else-slot-eq-NO_ENTRY-clause-only c =
    on_ok c.put.result
    (λ only e stands. ⊎_elim
    (λ (stood : HasSlot c.args.slots.now e). inl stood)
    (λ (same : e ≡ c.args.slot.entry). inr (same, λ none. c.if-slot-eq-NO_ENTRY.false (sym same ∙ none)))
    (only e stands))
    c.put.ensures.only
