use Rattle.std.proofs.Common.{◌≤◌, length, sym, ap, ◌∙◌, arith}
use Rattle.exercise_model.specs.declared.recording.TheConstants.{MOST_ENTRIES}
use Rattle.exercise_model.specs.Recording.{PlainRecording}
use Rattle.exercise_conflict.specs.Lacks.{missing_sends}
use Rattle.exercise_conflict.proofs.Repairs.{whole_slots}
use Rattle.exercise_conflict.proofs.repaired.RepairedLog.with.Goals as goal

pub invariant_of-result : goal.invariant_of-result
invariant_of-result g c =
    let r : PlainRecording = g.L.ExerciseLog.recording c.log-log.result.now in
    let few : length c.in_ok-slots.slots.items ≤ MOST_ENTRIES = omega arith in
    whole_slots r c.entry_count.ensures.limits c.args.lacks.now c.entry_count.result c.in_ok-slots.slots.items (c.requires ∙ ap missing_sends (sym c.log-log.ensures))
    c.entry_count.ensures.count c.in_ok-slots.ensures few

pub returns-clause-limits : goal.returns-clause-limits
returns-clause-limits g c =
    let r : PlainRecording = g.L.ExerciseLog.recording c.log-log.result.now in
    let few : length c.in_ok-slots.slots.items ≤ MOST_ENTRIES = omega arith in
    (whole_slots r c.entry_count.ensures.limits c.args.lacks.now c.entry_count.result c.in_ok-slots.slots.items (c.requires ∙ ap missing_sends (sym c.log-log.ensures))
    c.entry_count.ensures.count c.in_ok-slots.ensures few).limits
