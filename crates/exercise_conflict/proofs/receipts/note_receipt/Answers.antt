use Rattle.std.proofs.Common.{ap, ◌∙◌}
use Rattle.std.specs.Prelude.{nat_eq, unwrap_or}
use Rattle.exercise_model.specs.Recording.{PlainRecording}
use Rattle.exercise_findings.specs.Missing.{gets_bytes}
use Rattle.exercise_conflict.specs.declared.receipts.Datagram.{Datagram}
use Rattle.exercise_conflict.proofs.Tables.{receipts_more, kept_first}
use Rattle.exercise_conflict.proofs.receipts.note_receipt.Goals as goal

pub returns-clause-tied : goal.returns-clause-tied
returns-clause-tied g c =
    let r : PlainRecording = c.args.findings.now in
    let got : Datagram = record { bytes = c.args.bytes } in
    let kept = c.in_ok-first.ensures in
    receipts_more r c.args.entry c.requires.gets.0 c.requires.gets.1.0 c.in_ok-first.first got c.args.receipts.now c.keep_first.new.table
    c.requires.gets.1.1 c.requires.unsent kept.kept kept.noted c.requires.tied

pub returns-clause-first : goal.returns-clause-first
returns-clause-first g c =
    let r : PlainRecording = c.args.findings.now in
    let got : Datagram = record { bytes = c.args.bytes } in
    let kept = c.in_ok-first.ensures in
    ap (λ k. nat_eq k c.args.entry) (kept.kept ∙ ap (λ o. unwrap_or o c.args.entry) (c.requires.tied got c.requires.unsent))
    ∙ kept_first (gets_bytes r c.args.bytes.now) c.args.entry
