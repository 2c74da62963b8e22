-- The text is that of the world, of the order and of the report, one behind the other.
use Rattle.std.proofs.Common.{ap, ◌∙◌}
use Rattle.siman_outside.specs.Recorded.{explained_text}
use Rattle.siman_exercise_commands.proofs.Trials.{joined}
use Rattle.siman_exercise_commands.proofs.script_trial.trial_text.Goals as goal

pub returns-clause-text : goal.returns-clause-text
returns-clause-text c =
    let order = c.deref.ensures ∙ c.in_ok-counted.ensures ∙ ap explained_text c.entry_count.ensures.count in
    joined _ _ _ _ _ _ _ _ c.in_ok-push_str-2.ensures.bytes c.in_ok-push_str.ensures.bytes c.in_ok-text.ensures order
    (c.deref-2.ensures ∙ c.in_ok-report_text.ensures)
