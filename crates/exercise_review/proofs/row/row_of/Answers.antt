use Rattle.std.proofs.Common.{subst, arith}
use Rattle.exercise_model.specs.Recording.{IsRecording}
use Rattle.exercise_review.specs.Order.{order_of}
use Rattle.exercise_review.proofs.Rows.{among_entries, entry_fits, count_fits, sends_fit}
use Rattle.exercise_review.proofs.row.row_of.Goals as goal

pub overflow_cast-result : goal.overflow_cast-result
overflow_cast-result g c =
    let limits = subst IsRecording c.log.ensures c.entry_count-end.ensures.limits in
    let below = among_entries c.args.findings.now c.args.order.now.head (order_of c.args.order.now) c.requires.head in
    omega (arith, below, limits.count)

pub packed_count-requires : goal.packed_count-requires
packed_count-requires g c =
    sends_fit c.args.findings.now (order_of c.args.order.now) c.args.outcome (subst IsRecording c.log.ensures c.entry_count-end.ensures.limits) c.requires.kept

pub packed_count-requires-2 : goal.packed_count-requires-2
packed_count-requires-2 g c = count_fits c.args.findings.now c.args.outcome.receipts (subst IsRecording c.log.ensures c.entry_count-end.ensures.limits) c.requires.kept.count

pub packed_entry-requires : goal.packed_entry-requires
packed_entry-requires g c = entry_fits c.args.findings.now c.args.outcome.got (subst IsRecording c.log.ensures c.entry_count-end.ensures.limits) c.requires.kept.got

pub packed_entry-requires-2 : goal.packed_entry-requires-2
packed_entry-requires-2 g c = entry_fits c.args.findings.now c.args.outcome.answer (subst IsRecording c.log.ensures c.entry_count-end.ensures.limits) c.requires.kept.answer

pub packed_entry-requires-3 : goal.packed_entry-requires-3
packed_entry-requires-3 g c = entry_fits c.args.findings.now c.args.outcome.news (subst IsRecording c.log.ensures c.entry_count-end.ensures.limits) c.requires.kept.news

pub packed_entry-requires-4 : goal.packed_entry-requires-4
packed_entry-requires-4 g c = entry_fits c.args.findings.now c.args.outcome.change (subst IsRecording c.log.ensures c.entry_count-end.ensures.limits) c.requires.kept.change
