use Rattle.exercise_findings.proofs.Tied.{no_change}
use Rattle.exercise_findings.proofs.tables.note_entry_key.Goals as goal

pub returns : goal.returns
returns g c =
    let r = g.L.ExerciseLog.recording c.args.log.now in
    record {
      firsts = c.in_ok-note_entry.ensures.tied;
      states = no_change r c.args.entry c.args.tables.now.states.items c.requires.change c.requires.tied.states;
    }
