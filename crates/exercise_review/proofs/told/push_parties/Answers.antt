use Rattle.exercise_review.specs.Order.{order_of}
use Rattle.exercise_review.proofs.Rows.{kept_is}
use Rattle.exercise_review.proofs.told.push_parties.Goals as goal

pub push_row-requires-clause-kept : goal.push_row-requires-clause-kept
push_row-requires-clause-kept g c = kept_is c.args.findings.now (order_of c.args.order.now) c.outcome_at-outcome.result _ c.outcome_at-outcome.ensures
