use Rattle.exercise_review.specs.Noted.{IsNoted}
use Rattle.exercise_review.specs.Sourced.{AreSources}
use Rattle.exercise_review.proofs.register.noted_of.Given as goal

-- The entries so far are noted, and so is where what they receive comes from.
abbrev pub invariant-loop-entry : goal.invariant-loop-entry
invariant-loop-entry g l = record {
  noted : IsNoted l.findings l.entry l.noted;
  sources : AreSources l.findings l.entry l.sources;
}
