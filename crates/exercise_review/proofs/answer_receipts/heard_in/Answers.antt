use Rattle.std.proofs.Common.{◌≡◌, ◌<◌, length, subst, arith}
use Rattle.exercise_model.specs.Recording.{PlainRecording}
use Rattle.exercise_review.specs.Heard.{IsReceiptIndex}
use Rattle.exercise_review.specs.Register.{key_at}
use Rattle.exercise_review.proofs.Receiving.{heard_none}
use Rattle.exercise_review.proofs.answer_receipts.heard_in.Goals as goal

pub loop-entry-init : goal.loop-entry-init
loop-entry-init g c = heard_none (g.L.ExerciseLog.recording c.args.log.now) c.no_receipts-heard.result c.no_receipts-heard.ensures

pub note_receipt-requires-clause-key : goal.note_receipt-requires-clause-key
note_receipt-requires-clause-key g c =
    let r : PlainRecording = g.L.ExerciseLog.recording c.args.log.now in
    let within : c.loop-entry.entry < length r.entries = omega (arith, c.loop-entry-test.true, c.entry_count-entry-end.ensures.count) in
    c.is_indexed-has_key.ensures (key_at r) (length r.entries) c.requires within

pub returns : goal.returns
returns g c =
    let r : PlainRecording = g.L.ExerciseLog.recording c.args.log.now in
    let end : c.loop-entry.entry ≡ length r.entries =
    omega (arith, c.loop-entry-test.false, c.loop-entry.auto.entry-end, c.entry_count-entry-end.ensures.count) in
    subst (λ n. IsReceiptIndex r n c.loop-entry.heard) end c.loop-entry.invariant
