use Rattle.std.proofs.Common.{◌++◌, sym, ap, ◌∙◌}
use Rattle.std.specs.Prelude.{option_map}
use Rattle.std.specs.Option.{option_to_list}
use Rattle.exercise_model.specs.Recording.{PlainRecording}
use Rattle.exercise_conflict.specs.Also.{further_cause_at}
use Rattle.exercise_conflict.specs.Ways.{further_cause, further_causes_below}
use Rattle.exercise_conflict.proofs.Counted.{also_none, also_more}
use Rattle.exercise_conflict.proofs.way.further_causes.Goals as goal

pub loop-entry-init : goal.loop-entry-init
loop-entry-init g c = c.new-also.ensures.items ∙ sym (also_none c.args.findings.now c.args.blocks.now)

pub loop-entry-preserved : goal.loop-entry-preserved
loop-entry-preserved g c =
    let r : PlainRecording = c.args.findings.now in
    let n = c.loop-entry.entry in
    c.in_ok-push_further_cause.ensures
    ∙ ap (λ xs. xs ++ option_to_list (option_map (further_cause n) c.further_cause_at.result)) c.loop-entry.invariant
    ∙ ap (λ o. further_causes_below r c.args.blocks.now n ++ option_to_list (option_map (further_cause n) o)) c.further_cause_at.ensures
    ∙ sym (also_more r c.args.blocks.now n)
