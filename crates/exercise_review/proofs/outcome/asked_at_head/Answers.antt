use Rattle.exercise_review.specs.Order.{order_of}
use Rattle.exercise_review.proofs.Ends.{sent_once}
use Rattle.exercise_review.proofs.Rows.{among_entries}
use Rattle.exercise_review.proofs.outcome.asked_at_head.Goals as goal

pub is_last-requires : goal.is_last-requires
is_last-requires g c = among_entries c.args.findings.now c.args.order.now.head (order_of c.args.order.now) c.requires

pub returns : goal.returns
returns g c = record {
  said = c.bytes_at_head-said.ensures;
  digest = c.digest_at_head-digest.ensures;
  sends = sent_once c.args.findings.now (order_of c.args.order.now) c.in-Some.maker c.requires c.in-Some.is (c.is_last.ensures c.if-not-is_last.false);
  own = tt;
}
