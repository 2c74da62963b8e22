use Rattle.std.proofs.Common.{◌≡◌, arith, subst, ℕ}
use Rattle.exercise_check.specs.Cursors.{AreCursorsFrom}
use Rattle.exercise_check.proofs.Moved.{none_taken}
use Rattle.exercise_check.proofs.cursors.first_cursors.Goals as goal

pub returns : goal.returns
returns g c =
    let r = g.L.ExerciseLog.recording c.args.log.now in
    let end : c.loop-entry.entry ≡ 0 = omega (arith, c.loop-entry-test.false) in
    none_taken r c.loop-entry.cursors (subst (λ (n : ℕ). AreCursorsFrom r n c.loop-entry.cursors) end c.loop-entry.invariant)
