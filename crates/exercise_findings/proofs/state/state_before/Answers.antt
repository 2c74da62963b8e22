use Rattle.std.proofs.Common.{◌∙◌}
use Rattle.exercise_findings.proofs.Reported.{states_at, known}
use Rattle.exercise_findings.proofs.state.state_before.Goals as goal

pub returns : goal.returns
returns g c =
    let r = g.L.ExerciseLog.recording c.args.log.now in
    let ts = c.args.tables.now.states.items in
    let t = c.index.result.now in
    c.state_or_absent.ensures
    ∙ known r c.args.before c.args.station t (states_at r c.args.before c.args.station ts t c.requires.tied.states c.requires.at (rw c.from.ensures at c.index.ensures)) c.args.entity
