use Rattle.std.proofs.Common.{◌≡◌, Some, sym, ap, ◌∙◌}
use Rattle.std.specs.Prelude.{slice_get, is_some}
use Rattle.exercise_model.specs.Entry.{Received}
use Rattle.exercise_model.specs.Held.{shown}
use Rattle.exercise_model.specs.Recording.{PlainRecording}
use Rattle.exercise_findings.specs.Source.{source_of}
use Rattle.exercise_findings.proofs.Offered.{source_here}
use Rattle.exercise_conflict.proofs.Tables.{is_receipt, receipts_still, sourced_gets, idle_gets, idle_missing, none_left}
use Rattle.exercise_conflict.proofs.lacks.missing_next.Goals as goal

pub returns-then-is_some-clause-tied : goal.returns-then-is_some-clause-tied
returns-then-is_some-clause-tied g c =
    let r : PlainRecording = c.args.findings.now in
    receipts_still r c.args.entry c.args.receipts.now
    (sourced_gets r c.args.entry (ap is_some (sym c.source.ensures.source) ∙ sym c.is_some.ensures ∙ c.if-is_some.true)) c.requires.tied

pub note_receipt-requires-clause-unsent : goal.note_receipt-requires-clause-unsent
note_receipt-requires-clause-unsent g c =
    let r : PlainRecording = c.args.findings.now in
    let n = c.args.entry in
    let got = Received c.in-Received.station c.in-Received.stamp c.in-Received.bytes.now in
    let at : slice_get r.entries n ≡ Some got =
    ap (λ (x : PlainRecording). slice_get x.entries n) (sym c.log.ensures) ∙ c.entry.ensures.entry ∙ ap (λ v. Some (shown v)) c.in-Received.is in
    sym (source_here r n got at)
    ∙ none_left (source_of r n) (ap is_some (sym c.source.ensures.source) ∙ sym c.is_some.ensures ∙ c.if-is_some.false)

pub returns-in-Sent : goal.returns-in-Sent
returns-in-Sent g c =
    let r : PlainRecording = c.args.findings.now in
    let n = c.args.entry in
    let e = shown c.entry.result in
    let at : slice_get r.entries n ≡ Some e = ap (λ (x : PlainRecording). slice_get x.entries n) (sym c.log.ensures) ∙ c.entry.ensures.entry in
    let idle = ap (λ v. is_receipt (shown v)) c.in-Sent.is in
    record {
      missing = sym (idle_missing r n e at idle);
      asks = c.requires.asks;
      tied = receipts_still r n c.args.receipts.now (λ b _. idle_gets r n e at idle b) c.requires.tied;
    }

pub returns-in-Told : goal.returns-in-Told
returns-in-Told g c =
    let r : PlainRecording = c.args.findings.now in
    let n = c.args.entry in
    let e = shown c.entry.result in
    let at : slice_get r.entries n ≡ Some e = ap (λ (x : PlainRecording). slice_get x.entries n) (sym c.log.ensures) ∙ c.entry.ensures.entry in
    let idle = ap (λ v. is_receipt (shown v)) c.in-Told.is in
    record {
      missing = sym (idle_missing r n e at idle);
      asks = c.requires.asks;
      tied = receipts_still r n c.args.receipts.now (λ b _. idle_gets r n e at idle b) c.requires.tied;
    }
