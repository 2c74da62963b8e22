-- The text of the trial is out, or a prefix of it.
use Rattle.std.proofs.Common.{rules, ◌∙◌}
use Rattle.siman_exercise_commands.proofs.Trials.{is_tried, is_tried_in_part}
use Rattle.siman_exercise_commands.proofs.script_trial.perform.Goals as goal

pub returns-in-Ok : goal.returns-in-Ok
returns-in-Ok g c =
    is_tried c.args.script c.in_ok-log.log c.as_bytes.result.now _ _ (search rules) (search rules) c.in_ok-log.ensures.run c.in_ok-text.ensures.found
    (c.as_bytes.ensures.value ∙ c.in_ok-text.ensures.text) c.in-Ok.ensures

pub returns : goal.returns
returns g c =
    is_tried_in_part c.args.script c.in_ok-log.log c.as_bytes.result.now _ _ (search rules) (search rules) c.in_ok-log.ensures.run c.in_ok-text.ensures.found
    (c.as_bytes.ensures.value ∙ c.in_ok-text.ensures.text) c.in-Err.ensures
