-- Causes within one station's log (profile).
use Rattle.std.specs.Prelude.{ℕ, List, Bool, ◌==◌, Option, Some, None, option_and_then, if◌then◌else◌}
use Rattle.std.specs.List.{list_any}
use Rattle.exercise_model.specs.declared.cause.Cause.{Cause}
use Rattle.exercise_model.specs.Recording.{PlainRecording}
use Rattle.exercise_findings.specs.Tables.{own_cause}
use Rattle.exercise_check.specs.Judging.{is_never_sent}
use Rattle.exercise_audit.specs.declared.blocks.Block.{Block}

-- a cause, unless it is NeverSent
abbrev pub unless_unsent : Cause → Option Cause
unless_unsent cause = if is_never_sent cause then None else Some cause

-- the cause that its station's log shows against an entry, independent of other stations
unfoldable pub standing_cause : PlainRecording → ℕ → Option Cause
standing_cause r j = option_and_then unless_unsent (own_cause r j)

-- entry j is the next one of a blocked station
abbrev pub is_next_of : List Block → ℕ → Bool
is_next_of blocks j = list_any (λ (b : Block). b.entry == j) blocks

-- THE FURTHER CAUSE AGAINST ENTRY j, unless it is the next one of a blocked station
unfoldable pub further_cause_at : PlainRecording → List Block → ℕ → Option Cause
further_cause_at r blocks j = if is_next_of blocks j then None else standing_cause r j
