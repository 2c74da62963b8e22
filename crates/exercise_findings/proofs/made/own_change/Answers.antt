use Rattle.std.proofs.Common.{None, sym, ap, ◌∙◌}
use Rattle.std.specs.Prelude.{if◌then◌else◌}
use Rattle.std.proofs.lemmas.Bool.{eq-eqb, ne_eqb}
use Rattle.exercise_model.specs.Held.{shown}
use Rattle.exercise_model.specs.Account.{change_at}
use Rattle.exercise_findings.specs.ChangeNumber.{change_in}
use Rattle.exercise_findings.proofs.Tied.{own_of}
use Rattle.exercise_findings.proofs.made.own_change.Goals as goal

pub returns-then-station : goal.returns-then-station
returns-then-station g c =
    let r = g.L.ExerciseLog.recording c.args.log.now in
    c.change_in.ensures
    ∙ ap change_in c.number_at.ensures
    ∙ c.requires.changes.each c.args.entry c.requires.within
    ∙ sym (own_of r c.args.station c.args.entry (shown c.entry.result) c.entry.ensures.entry
    ∙ ap (λ b. if b then change_at r c.args.entry else None) (eq-eqb _ _ (sym c.station.ensures ∙ c.if-station.true)))

pub returns-else-station : goal.returns-else-station
returns-else-station g c =
    let r = g.L.ExerciseLog.recording c.args.log.now in
    sym (own_of r c.args.station c.args.entry (shown c.entry.result) c.entry.ensures.entry
    ∙ ap (λ b. if b then change_at r c.args.entry else None) (ne_eqb _ _ (λ same. c.if-station.false (c.station.ensures ∙ same))))
