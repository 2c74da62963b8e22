use Rattle.std.proofs.Common.{◌≡◌, arith, subst, ℕ}
use Rattle.exercise_conflict.specs.Own.{AreOwnFrom}
use Rattle.exercise_conflict.proofs.own.own_of.Goals as goal

pub returns : goal.returns
returns g c =
    let end : c.loop-entry.entry ≡ 0 = omega (arith, c.loop-entry-test.false) in
    subst (λ (n : ℕ). AreOwnFrom (g.L.ExerciseLog.recording c.args.log.now) n c.loop-entry.own) end c.loop-entry.invariant
