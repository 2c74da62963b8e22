use Rattle.std.proofs.Common.{◌≡◌, ℕ, ◌<◌, Some, length, map, ap, ◌∙◌, subst, arith}
use Rattle.exercise_model.specs.Recording.{PlainRecording}
use Rattle.exercise_review.specs.Tally.{IsReviewBelow}
use Rattle.exercise_review.proofs.Orders.{told_none, told_end, told_all, no_room}
use Rattle.exercise_review.proofs.told.rows_within.Goals as goal

pub loop-entry-init : goal.loop-entry-init
loop-entry-init g c =
    let r : PlainRecording = c.args.findings.now in
    record {
      told = told_none r (record { records = c.in_ok-records_of.field-0; makers = c.new.result; rows = c.new-2.result })
          c.in_ok-records_of.ensures c.new.ensures.items c.new-2.ensures.items;
      room = omega (arith, ap length c.new-2.ensures.items);
    }

pub returns-in_err-push_entry : goal.returns-in_err-push_entry
returns-in_err-push_entry g c =
    let r : PlainRecording = c.args.findings.now in
    let k : ℕ = c.loop-entry.entry in
    let below : k < length r.entries = omega (arith, c.loop-entry-test.true, c.loop-entry.auto.entry-end, c.indexed_end-entry-end.ensures.within) in
    no_room r c.loop-entry.told.rows.items c.push_entry.new.told.rows.items k c.args.most c.in_err-push_entry.field-0.0
    c.from_residual-in_err-push_entry.result c.from_residual-in_err-push_entry.ensures.1 below c.loop-entry.invariant.told.rows c.in_err-push_entry.ensures.added

pub returns : goal.returns
returns g c =
    let r : PlainRecording = c.args.findings.now in
    let keyed = c.indexed_end-entry-end in
    let end : c.loop-entry.entry ≡ keyed.result = omega (arith, c.loop-entry-test.false, c.loop-entry.auto.entry-end) in
    let told =
    told_end r keyed.result (length r.entries) c.loop-entry.told keyed.ensures.within keyed.ensures.rest
    (subst (λ n. IsReviewBelow r n c.loop-entry.told) end c.loop-entry.invariant.told) in
    (told, told.rows ∙ ap (map Some) (told_all r), c.loop-entry.invariant.room)
