use Rattle.exercise_findings.proofs.pass.open_result.Goals as goal

pub returns : goal.returns
returns g c = record {
  tied = c.requires.pass.tied;
  causes = c.requires.pass.causes;
  changes = c.requires.pass.changes;
  earlier = c.requires.pass.earlier;
  senders = c.requires.senders;
  sources = tt;
  ables = c.requires.pass.ables;
  others = c.requires.pass.others;
}
