use Rattle.std.proofs.Common.{◌∙◌, sym, ap}
use Rattle.std.specs.Prelude.{◌++◌, option_map}
use Rattle.std.specs.Option.{option_to_list}
use Rattle.exercise_model.specs.Recording.{PlainRecording}
use Rattle.exercise_conflict.specs.Lacks.{missing_send_by, missing_sends_below}
use Rattle.exercise_conflict.proofs.Tables.{no_receipts, lacks_none, lacks_more}
use Rattle.exercise_conflict.proofs.lacks.missing_sends.Goals as goal

pub loop-entry-init : goal.loop-entry-init
loop-entry-init g c = record {
  lacks = c.new-lacks.ensures.items ∙ sym (lacks_none c.args.findings.now);
  asks = tt;
  receipts = no_receipts c.args.findings.now c.no_receipts-receipts.result c.no_receipts-receipts.ensures;
}

pub loop-entry-preserved : goal.loop-entry-preserved
loop-entry-preserved g c =
    let r : PlainRecording = c.args.findings.now in
    let n = c.loop-entry.entry in
    record {
      lacks = c.in_ok-push_missing_send.ensures
          ∙ ap (λ xs. xs ++ option_to_list (option_map (missing_send_by n) c.in_ok-missing.missing)) c.loop-entry.invariant.lacks
          ∙ ap (λ o. missing_sends_below r n ++ option_to_list (option_map (missing_send_by n) o)) c.in_ok-missing.ensures.missing
          ∙ sym (lacks_more r n);
      asks = c.in_ok-missing.ensures.asks;
      receipts = c.in_ok-missing.ensures.tied;
    }
