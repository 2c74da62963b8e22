use Rattle.std.proofs.Common.{◌≡◌, ⊎_elim, inl, inr}
use Rattle.exercise_findings.specs.Slots.{HasSlot}
use Rattle.exercise_findings.proofs.slots.keep.Goals as goal

pub returns : goal.returns
returns c = record {
  reached = c.in_ok-put.ensures.reached;
  kept = λ h e reached. c.in_ok-put.ensures.kept h e (c.in_ok-make_room.ensures.kept h e reached);
  only = λ e stands. ⊎_elim
      (λ (stood : HasSlot c.make_room.new.slots.slots e). inl (c.in_ok-make_room.ensures.only e stood))
      (λ (same : e ≡ c.args.entry). inr same)
      (c.in_ok-put.ensures.only e stands);
}
