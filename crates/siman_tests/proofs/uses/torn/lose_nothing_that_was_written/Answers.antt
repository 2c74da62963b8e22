use Rattle.std.proofs.Common.{Ok, Result, ap, ◌≡◌}
use Rattle.exercise_recording.specs.Mending.{Whole}
use Rattle.siman_tests.proofs.uses.torn.lose_nothing_that_was_written.Goals as goal

same_recording : {F : Type 0} (given : Result Whole F) (a b : Whole) → given ≡ Ok a → given ≡ Ok b → a.recording ≡ b.recording
same_recording given a b first second = let same : a ≡ b = cc in ap (λ (w : Whole). w.recording) same

pub returns : goal.returns
returns c = λ limit m is bytes room mended.
    same_recording _ m _ mended (c.served_is_mended.ensures.stopped limit c.args.recording.now is bytes room)
