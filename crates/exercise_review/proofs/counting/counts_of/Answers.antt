use Rattle.std.proofs.Common.{ℕ, ◌+◌, length, sym, ap, ◌∙◌, arith}
use Rattle.std.specs.Prelude.{slice_index_or, Some, if◌then◌else◌}
use Rattle.std.proofs.lemmas.List.{get_or-replicate, length-replicate}
use Rattle.siman_pdus.specs.Answers.{same_id}
use Rattle.exercise_review.specs.Counted.{count_at}
use Rattle.exercise_review.proofs.Tallies.{none_counted, one_counted, room}
use Rattle.exercise_review.proofs.counting.counts_of.Goals as goal

pub loop-number-init : goal.loop-number-init
loop-number-init g c =
    let items = c.in_ok-counts.ensures.items_if_clones_equal (λ y same. same) in
    record {
      count = ap length items ∙ length-replicate c.args.places 0;
      each = λ k below.
          ap (λ xs. slice_index_or xs k 0) items
          ∙ get_or-replicate c.args.places k 0 0 below
          ∙ sym (none_counted (g.P.Placing.places c.args.placing.now) k);
    }

pub count_one-requires : goal.count_one-requires
count_one-requires g c =
    room (g.P.Placing.places c.args.placing.now) c.loop-number.number c.args.places c.loop-number.counts.items (omega (arith, c.loop-number-test.true, c.ranges.end.fits)) c.loop-number.invariant.count c.loop-number.invariant.each

pub loop-number-preserved : goal.loop-number-preserved
loop-number-preserved g c =
    let counted = c.count_one.ensures in
    record {
      count = counted.count ∙ c.loop-number.invariant.count;
      each = λ k below.
          counted.each k (omega (arith, below, c.loop-number.invariant.count))
          ∙ ap {B = ℕ} (λ n. n + (if same_id c.place.result (Some k) then 1 else 0)) (c.loop-number.invariant.each k below)
          ∙ ap {B = ℕ} (λ o. count_at (g.P.Placing.places c.args.placing.now) k c.loop-number.number + (if same_id o (Some k) then 1 else 0)) c.place.ensures
          ∙ sym (one_counted (g.P.Placing.places c.args.placing.now) k c.loop-number.number);
    }
