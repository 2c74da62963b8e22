use Rattle.std.proofs.Common.{rules, ◌≡◌, true, false, sym, ◌∙◌}
use Rattle.std.specs.Prelude.{is_some}
use Rattle.exercise_model.specs.Recording.{PlainRecording}
use Rattle.exercise_model.specs.Setting.{is_open}
use Rattle.exercise_review.specs.Register.{key_at}
use Rattle.exercise_review.specs.declared.receipt.Receipt.{Receipt}
use Rattle.exercise_review.proofs.Receiving.{heard_still, heard_more, heard_keyed, sent_no_bytes, told_no_bytes}
use Rattle.exercise_review.proofs.receipt.note_receipt.Goals as goal

pub returns-in_ok-keep_receipt-in-Received : goal.returns-in_ok-keep_receipt-in-Received
returns-in_ok-keep_receipt-in-Received g c =
    let r : PlainRecording = g.L.ExerciseLog.recording c.args.log.now in
    let x : Receipt = record { station = c.in-Received.station; bytes = c.in-Received.bytes } in
    heard_more r c.args.entry c.in-Received.stamp x c.args.heard.now c.keep_receipt.new.heard (rw c.in-Received.is at c.requires.at)
    c.in_ok-keep_receipt-in-Received.ensures c.requires.tied

pub returns-in-Sent : goal.returns-in-Sent
returns-in-Sent g c =
    let r : PlainRecording = g.L.ExerciseLog.recording c.args.log.now in
    heard_still r c.args.entry c.args.heard.now (sent_no_bytes r c.args.entry _ _ _ (rw c.in-Sent.is at c.requires.at)) c.requires.tied

pub returns-in-Told : goal.returns-in-Told
returns-in-Told g c =
    let r : PlainRecording = g.L.ExerciseLog.recording c.args.log.now in
    heard_still r c.args.entry c.args.heard.now (told_no_bytes r c.args.entry _ _ _ (rw c.in-Told.is at c.requires.at)) c.requires.tied

pub returns-then-has_key : goal.returns-then-has_key
returns-then-has_key g c =
    let r : PlainRecording = g.L.ExerciseLog.recording c.args.log.now in
    let closed : is_open r.setting.form ≡ false = search rules in
    let keyed : is_some (key_at r c.args.entry) ≡ true = sym c.requires.key ∙ c.if-has_key.true in
    heard_keyed r c.args.entry c.args.heard.now closed keyed c.requires.tied
