use Rattle.std.proofs.Common.{◌≡◌, length, ap, ◌∙◌, arith}
use Rattle.std.specs.Prelude.{slice_index_or}
use Rattle.std.proofs.lemmas.List.{get_or-replicate, length-replicate}
use Rattle.exercise_conflict.proofs.Owning.{none_past}
use Rattle.exercise_conflict.proofs.own.no_own.Goals as goal

pub returns : goal.returns
returns g c =
    let r = g.L.ExerciseLog.recording c.args.log.now in
    let followers = c.in_ok-followers.ensures.items_if_clones_equal (λ y same. same) in
    let first = c.in_ok-first.ensures.items_if_clones_equal (λ y same. same) in
    record {
      followers = record {
        count = ap length followers ∙ length-replicate c.entry_count.result _ ∙ c.entry_count.ensures.count;
        each = λ j l above. absurd (omega (arith, l, above));
      };
      first = record {
        count = ap length first ∙ length-replicate c.station_count.result _ ∙ c.station_count.ensures.count;
        each = λ s l. none_past r s (length r.entries) (slice_index_or c.in_ok-first.first.items s 0) (omega arith) (omega (
          arith,
          c.entry_count.ensures.limits.count,
          ap (λ xs. slice_index_or xs s 0) first ∙ get_or-replicate c.station_count.result s _ 0 (omega (arith, l, c.station_count.ensures.count)),
        ));
      };
    }
