use Rattle.std.proofs.Common.{◌≡◌, Some, None, refl, sym, ap, ◌∙◌}
use Rattle.std.specs.Prelude.{option_map}
use Rattle.exercise_model.specs.Recording.{PlainRecording}
use Rattle.exercise_review.specs.Order.{OrderData, order_of, order_at}
use Rattle.exercise_review.proofs.Orders.{at_head, told_more, told_still}
use Rattle.exercise_review.proofs.told.push_entry.Goals as goal

pub push_order-requires-clause-head : goal.push_order-requires-clause-head
push_order-requires-clause-head g c =
    at_head c.args.findings.now c.args.entry (order_of c.in-Some.order) (sym c.order_at_entry.ensures ∙ ap (option_map order_of) c.in-Some.is)

pub returns-in_ok-push-in-Some-clause-told : goal.returns-in_ok-push-in-Some-clause-told
returns-in_ok-push-in-Some-clause-told g c =
    let r : PlainRecording = c.args.findings.now in
    let o : OrderData = order_of c.in-Some.order in
    let at : order_at r c.args.entry ≡ Some o = sym c.order_at_entry.ensures ∙ ap (option_map order_of) c.in-Some.is in
    told_more r c.args.entry c.args.most o c.args.told.now (record { records = c.args.told.now.records; makers = c.push.new.self; rows = c.push_order.new.rows })
    c.push_order.result at c.requires.before refl c.in_ok-push-in-Some.ensures.items c.push_order.ensures

pub returns-in-None-clause-told : goal.returns-in-None-clause-told
returns-in-None-clause-told g c =
    let r : PlainRecording = c.args.findings.now in
    let at : order_at r c.args.entry ≡ None = sym c.order_at_entry.ensures ∙ ap (option_map order_of) c.in-None.is in
    told_still r c.args.entry c.args.told.now at c.requires.before
