use Rattle.std.proofs.Common.{◌≡◌, ◌∙◌, ◌<◌, length, get_or, subst, ap, sym}
use Rattle.exercise_findings.specs.State.{PlaceBefore}
use Rattle.exercise_findings.proofs.Reported.{states_at, present-before, if_ok}
use Rattle.exercise_findings.proofs.states_before.StatesBefore.entities.Goals as goal

pub returns : goal.returns
returns g c =
    let inside = c.self.inside in
    let r = inside.findings.now in
    let s = c.args.station in
    let t = c.index.result.now in
    let within : s < length r.setting.stations = subst (λ (p : PlaceBefore). s < length p.recording.setting.stations) (sym c.self.view_is) c.requires.at in
    let at : t ≡ get_or inside.states.items s t = c.index.ensures ∙ ap (λ n. get_or inside.states.items n t) c.from.ensures in
    let states = states_at r inside.entry s inside.states.items t c.self.invariant within at in
    rw (sym c.self.view_is) (if_ok c.present.result (λ entities there. there ∙ present-before r inside.entry s t states) c.present.ensures)
