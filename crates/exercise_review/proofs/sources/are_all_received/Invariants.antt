use Rattle.std.proofs.Common.{◌≡◌, None}
use Rattle.exercise_model.specs.Place.{first_below}
use Rattle.exercise_review.specs.Sourced.{is_unreceived}
use Rattle.exercise_review.proofs.sources.are_all_received.Given as goal

-- Each entry so far that takes up a request was received.
abbrev pub invariant-loop-entry : goal.invariant-loop-entry
invariant-loop-entry g l = first_below (is_unreceived l.findings l.sources) l.entry ≡ None
