use Rattle.std.proofs.Common.{Some, None, refl, sym, ap, ◌∙◌}
use Rattle.std.specs.Prelude.{is_some, option_map}
use Rattle.exercise_model.specs.Entry.{Sent, Received, Told}
use Rattle.exercise_model.specs.Meaning.{meaning}
use Rattle.exercise_model.specs.Recording.{PlainRecording}
use Rattle.exercise_review.specs.Order.{made_by}
use Rattle.exercise_review.proofs.Rows.{order_stands, head_means, head_among}
use Rattle.exercise_review.proofs.row.order_at_head.Goals as goal

pub entry-requires : goal.entry-requires
entry-requires g c = head_among (g.L.ExerciseLog.recording c.args.log.now) c.args.head c.requires

pub meaning_again-requires : goal.meaning_again-requires
meaning_again-requires g c =
    let r : PlainRecording = g.L.ExerciseLog.recording c.args.log.now in
    ap (λ x. is_some (meaning x c.in-Sent.bytes.now)) c.exercise.ensures
    ∙ head_means r c.args.head (Sent c.in-Sent.station c.in-Sent.stamp c.in-Sent.bytes.now) (Some c.in-Sent.station) c.in-Sent.bytes.now c.requires c.in-Sent.ensures.entry refl

pub meaning_again-requires-in-Received : goal.meaning_again-requires-in-Received
meaning_again-requires-in-Received g c =
    let r : PlainRecording = g.L.ExerciseLog.recording c.args.log.now in
    ap (λ x. is_some (meaning x c.in-Received.bytes.now)) c.exercise-in-Received.ensures
    ∙ head_means r c.args.head (Received c.in-Received.station c.in-Received.stamp c.in-Received.bytes.now) None c.in-Received.bytes.now c.requires c.in-Received.ensures.entry refl

pub unreachable-requires : goal.unreachable-requires
unreachable-requires g c =
    let r : PlainRecording = g.L.ExerciseLog.recording c.args.log.now in
    let none = order_stands r c.args.head (Told c.in-Told.station c.in-Told.entity c.in-Told.state) c.requires c.in-Told.ensures.entry in
    let no = sym (ap is_some none) ∙ c.requires in cc

pub returns-in-Sent : goal.returns-in-Sent
returns-in-Sent g c =
    let r : PlainRecording = g.L.ExerciseLog.recording c.args.log.now in
    let x = c.in-Sent in
    ap (option_map (made_by c.args.head (Some x.station))) (c.meaning_again.ensures ∙ ap (λ e. meaning e x.bytes.now) c.exercise.ensures)
    ∙ sym (order_stands r c.args.head (Sent x.station x.stamp x.bytes.now) c.requires x.ensures.entry)

pub returns-in-Received : goal.returns-in-Received
returns-in-Received g c =
    let r : PlainRecording = g.L.ExerciseLog.recording c.args.log.now in
    let x = c.in-Received in
    ap (option_map (made_by c.args.head None)) (c.meaning_again-in-Received.ensures ∙ ap (λ e. meaning e x.bytes.now) c.exercise-in-Received.ensures)
    ∙ sym (order_stands r c.args.head (Received x.station x.stamp x.bytes.now) c.requires x.ensures.entry)
