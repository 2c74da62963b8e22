use Rattle.std.proofs.Common.{◌≡◌, true, sym, ap, ◌∙◌}
use Rattle.std.specs.Prelude.{is_some}
use Rattle.exercise_conflict.specs.Also.{standing_cause}
use Rattle.exercise_conflict.proofs.Stands.{standing_stands, standing_stays}
use Rattle.exercise_conflict.proofs.blame.has_standing_cause.Goals as goal

pub returns-then-is_some-clause-unexplained : goal.returns-then-is_some-clause-unexplained
returns-then-is_some-clause-unexplained g c =
    let stands : is_some (standing_cause c.args.findings.now c.loop-entry.entry) ≡ true =
    sym (ap is_some c.standing_cause.ensures) ∙ sym c.is_some.ensures ∙ c.if-is_some.true in
    λ told h explains. standing_stands c.args.findings.now c.loop-entry.entry h stands explains

pub returns-then-is_some-clause-stays : goal.returns-then-is_some-clause-stays
returns-then-is_some-clause-stays g c =
    let stands : is_some (standing_cause c.args.findings.now c.loop-entry.entry) ≡ true =
    sym (ap is_some c.standing_cause.ensures) ∙ sym c.is_some.ensures ∙ c.if-is_some.true in
    λ told wide h further explains. standing_stays c.args.findings.now wide c.loop-entry.entry h further stands explains
