-- Causes that no further entry of any log resolves (profile).
use Rattle.std.specs.Prelude.{Bool, true, false}
use Rattle.exercise_model.specs.declared.cause.Cause.{Cause}
use Rattle.exercise_model.specs.declared.cause.Cause.TheVariants.{WrongSender, ReusedIdentifier, ChangedAnswer, Stranger}

-- A CAUSE IS FINAL if it concerns the datagram alone, or earlier entries of its station, and so holds whatever else happened
abbrev pub is_final : Cause → Bool
is_final WrongSender = true
is_final ReusedIdentifier = true
is_final ChangedAnswer = true
is_final Stranger = true
is_final cause = false
