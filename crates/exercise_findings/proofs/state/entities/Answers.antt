use Rattle.std.proofs.Common.{length, ◌∙◌}
use Rattle.exercise_findings.proofs.Reported.{states_at, present-all, if_ok}
use Rattle.exercise_findings.proofs.state.entities.Goals as goal

pub returns : goal.returns
returns g c =
    let r = g.L.ExerciseLog.recording c.args.log.now in
    let n = length r.entries in
    let t = c.index.result.now in
    let states = states_at r n c.args.station c.args.tables.now.states.items t c.requires.tied.states c.requires.at c.index.ensures in
    if_ok c.present.result (λ xs told. told ∙ present-all r c.args.station t states) c.present.ensures
