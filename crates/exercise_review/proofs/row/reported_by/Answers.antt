use Rattle.std.proofs.Common.{ap, ◌∙◌}
use Rattle.std.specs.Prelude.{is_some}
use Rattle.exercise_model.specs.Recording.{PlainRecording}
use Rattle.exercise_review.specs.Order.{order_at}
use Rattle.exercise_review.proofs.Rows.{order_there}
use Rattle.exercise_review.proofs.row.reported_by.Goals as goal

pub order_at_head-order-requires : goal.order_at_head-order-requires
order_at_head-order-requires g c =
    ap (λ (r : PlainRecording). is_some (order_at r c.args.row.head)) c.log-log.ensures ∙ order_there c.args.findings.now c.args.row c.requires
