use Rattle.std.proofs.Common.{sym, ◌∙◌}
use Rattle.exercise_review.specs.Order.{order_of}
use Rattle.exercise_review.proofs.Ends.{head_digest}
use Rattle.exercise_review.proofs.Rows.{among_entries}
use Rattle.exercise_review.proofs.outcome.digest_at_head.Goals as goal

pub key-requires : goal.key-requires
key-requires g c = among_entries c.args.findings.now c.args.order.now.head (order_of c.args.order.now) c.requires.head

pub returns-in-Some : goal.returns-in-Some
returns-in-Some g c =
    head_digest c.args.findings.now (order_of c.args.order.now) c.args.maker c.in-Some.key c.digest_under.result c.requires.head c.requires.maker
    (sym c.key.ensures ∙ c.in-Some.is) c.digest_under.ensures
