use Rattle.std.proofs.Common.{◌≡◌, take}
use Rattle.exercise_review.specs.Life.{life_in}
use Rattle.exercise_review.specs.Span.{life_by_changes}
use Rattle.exercise_review.proofs.life.live_by.Given as goal

-- The life after the changes so far.
abbrev pub invariant-loop-made : goal.invariant-loop-made
invariant-loop-made l = life_in l.life ≡ life_by_changes l.entity (life_in l.initial.life) (take l.made-index l.changes)
