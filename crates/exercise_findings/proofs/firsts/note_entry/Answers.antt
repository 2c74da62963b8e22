use Rattle.std.proofs.Common.{sym, ◌∙◌}
use Rattle.exercise_findings.proofs.FirstEntries.{firsts_still}
use Rattle.exercise_findings.proofs.firsts.note_entry.Goals as goal

pub returns-in-None-clause-tied : goal.returns-in-None-clause-tied
returns-in-None-clause-tied g c =
    let r = g.L.ExerciseLog.recording c.args.log.now in
    firsts_still r c.args.entry c.args.firsts.now (sym c.in-None.is ∙ c.requires.key) c.requires.tied
