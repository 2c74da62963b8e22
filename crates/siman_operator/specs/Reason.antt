-- Why a line of text is bad (profile).
use Rattle.std.specs.Prelude.{◌≡◌, ◌≤◌, ◌⊎◌, ℕ, List, length, nat_le, Option, Some, None, Result, Err, if◌then◌else◌}
use Rattle.std.specs.Option.{option_map}
use Rattle.siman_scripts.specs.Reason.{command_reason}
use Rattle.siman_operator.specs.declared.obeying.Rejection.{Rejection}
use Rattle.siman_operator.specs.declared.obeying.Rejection.TheVariants as undone
use Rattle.siman_operator.specs.declared.reading.TheConstants.{LONGEST_LINE}
use Rattle.siman_operator.specs.declared.reason.BadReason.{BadReason}
use Rattle.siman_operator.specs.declared.reason.BadReason.TheVariants as reasons

-- WHY A LINE IS BAD: it is longer than LONGEST_LINE, or no order for a station
abbrev pub bad_reason : List ℕ → Option BadReason
bad_reason line = if nat_le (length line) LONGEST_LINE then option_map reasons.NoOrder (command_reason line) else Some reasons.TooLong

-- the reason of a line, which may be missing only if memory ran out; a line that is too long needs no memory
abbrev pub IsReason : List ℕ → Option BadReason → Type 0
IsReason line reason = (reason ≡ bad_reason line) ⊎ ((reason ≡ None) × (length line ≤ LONGEST_LINE))

-- THE REASON FOR WHICH A LINE WAS REFUSED; none, if it was not refused as bad
abbrev pub Reasons : List ℕ → Result (Unit {0}) Rejection → Option BadReason → Type 0
Reasons line (Err undone.BadLine) reason = IsReason line reason
Reasons line other reason = reason ≡ None
