-- What is out is the text of the steps that are no longer left.
use Rattle.std.proofs.Common.{◌≡◌, ◌++◌, ℕ, List, length}
use Rattle.std.specs.List.{flat_map}
use Rattle.std.specs.Io.KnownBytes.{Appends}
use Rattle.exercise_check.specs.Certificate.{step_text}
use Rattle.exercise_check.proofs.certificate_text.put_steps.Given as goal

abbrev pub invariant-loop-others : goal.invariant-loop-others
invariant-loop-others g l =
    (out : List ℕ) × (Appends (g.W.Write.contents l.initial.writer) (g.W.Write.contents l.writer) out
    × (out ++ flat_map step_text l.others ≡ flat_map step_text l.steps))

abbrev pub decreases-loop-others : goal.decreases-loop-others
decreases-loop-others g l = length l.others
