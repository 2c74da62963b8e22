use Rattle.std.proofs.Common.{List, subst}
use Rattle.std.specs.Prelude.{Some}
use Rattle.std.specs.List.{All}
use Rattle.std.proofs.lemmas.Option.{slice_get_within, get_or_from_slice_get}
use Rattle.siman_lines.specs.Calls.{IsUnused}
use Rattle.siman_lines.specs.Memory.{sent_of}
use Rattle.siman_lines.specs.declared.memory.MemoryLine.{MemoryLine}
use Rattle.siman_trials.specs.Recorded.{AreUnused}
use Rattle.siman_tests.proofs.exercises.on_dead_lines.Goals as goal

-- what holds of all lines holds of each
all_unused : (lines : List MemoryLine) → All (λ line. IsUnused (Some (sent_of line))) lines → AreUnused (λ line. Some (sent_of line)) lines
all_unused lines all number line there =
    subst (λ (one : MemoryLine). IsUnused (Some (sent_of one))) (get_or_from_slice_get lines number line line there) (all number line (slice_get_within lines number line there))

pub record_exercise-recorded-requires : goal.record_exercise-recorded-requires
record_exercise-recorded-requires c = record { unused = all_unused c.in_ok-lines.lines.items c.in_ok-lines.ensures }
