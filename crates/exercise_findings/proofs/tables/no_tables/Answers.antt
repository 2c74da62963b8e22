use Rattle.exercise_findings.proofs.FirstEntries.{firsts_none}
use Rattle.exercise_findings.proofs.tables.no_tables.Goals as goal

pub returns : goal.returns
returns g c =
    let r = g.L.ExerciseLog.recording c.args.log.now in
    record {
      firsts = firsts_none r c.empty_table.result c.empty_table.ensures.slots c.empty_table.ensures.order;
      states = c.in_ok-states.ensures;
    }
