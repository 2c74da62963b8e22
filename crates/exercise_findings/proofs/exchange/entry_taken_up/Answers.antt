use Rattle.std.proofs.Common.{◌<◌, sym, subst}
use Rattle.std.specs.Prelude.{IfSome}
use Rattle.exercise_findings.proofs.Keyed.{under_earlier}
use Rattle.exercise_findings.proofs.exchange.entry_taken_up.Goals as goal
use Rattle.exercise_findings.proofs.Keyed.{key_steps}
use Rattle.std.proofs.Common.{arith}

pub returns-in-Some-clause-earlier : goal.returns-in-Some-clause-earlier
returns-in-Some-clause-earlier g c =
    let r = g.L.ExerciseLog.recording c.args.log.now in
    subst (λ o. IfSome o (λ e. e < c.args.before)) (sym c.first_noted.ensures) (under_earlier r c.in-Some.key c.args.before)

pub returns-in-Some-clause-entry : goal.returns-in-Some-clause-entry
returns-in-Some-clause-entry g c = grind (arith, key_steps)

pub returns-in-None-clause-entry : goal.returns-in-None-clause-entry
returns-in-None-clause-entry g c = grind (arith, key_steps)
