use Rattle.std.proofs.Common.{Some, ◌++◌}
use Rattle.siman_tests.proofs.uses.line.leave_a_recording.Goals as goal

pub returns : goal.returns
returns c = λ before stations calls old new es has kept made.
    let after = c.calls_are_kept.ensures.calls (Some before) stations calls old new es has kept made in
    (after.0, c.what_is_kept_stands.ensures.text before new.recorder (es ++ after.0) after.1.written)
