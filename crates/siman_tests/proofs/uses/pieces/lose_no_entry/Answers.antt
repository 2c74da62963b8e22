use Rattle.std.proofs.Common.{ap, length, ◌∙◌}
use Rattle.std.proofs.lemmas.List.{length-map}
use Rattle.exercise_recording.specs.Joining.{entries_at}
use Rattle.siman_tests.proofs.uses.pieces.lose_no_entry.Goals as goal

pub returns-clause-logs : goal.returns-clause-logs
returns-clause-logs c = λ word k s r are there within.
    ap length (c.logs_are_kept.ensures.logs word c.args.pieces.now k s r are there within) ∙ length-map (entries_at s r.entries) _
