use Rattle.exercise_findings.proofs.EarlierEntries.{all_so_far}
use Rattle.exercise_findings.proofs.pass.resolved_result.Goals as goal

pub returns : goal.returns
returns g c = record {
  tied = c.requires.pass.tied;
  causes = c.requires.pass.causes;
  changes = c.requires.pass.changes;
  earlier = all_so_far (g.L.ExerciseLog.recording c.args.log.now) c.back_references.result.items c.back_references.ensures;
  senders = tt;
  sources = c.back_references.ensures;
  ables = c.requires.pass.ables;
  others = c.requires.pass.others;
}
