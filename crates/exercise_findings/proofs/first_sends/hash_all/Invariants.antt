use Rattle.std.proofs.Common.{◌≡◌, length}
use Rattle.exercise_findings.specs.FirstSends.{AreFirstSends}
use Rattle.exercise_findings.proofs.first_sends.hash_all.Given as goal

-- Those before the place are kept under their hashes.
abbrev pub invariant-loop-place : goal.invariant-loop-place
invariant-loop-place g l =
    let r = g.L.ExerciseLog.recording l.log in
    record {
      tied : AreFirstSends r l.before l.sends;
      hashed : l.sends.hashed ≡ l._place;
      order : length l.sends.kept.order.items ≡ l._place-end;
    }
