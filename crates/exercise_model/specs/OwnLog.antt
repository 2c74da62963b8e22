-- What the log of a station says alone against its events: causes 5 to 10 and 13 (profile).
use Rattle.std.specs.Prelude.{◌≡◌, ℕ, [], ◌∷◌, Option, None, option_and_then}
use Rattle.exercise_model.specs.declared.cause.Cause.{Cause}
use Rattle.exercise_model.specs.Station.{StationData}
use Rattle.exercise_model.specs.History.{Event, Send, Get, Tell, History}
use Rattle.exercise_model.specs.Setting.{SettingData}
use Rattle.exercise_model.specs.Meaning.{meaning}
use Rattle.exercise_model.specs.State.{state_after}
use Rattle.exercise_model.specs.Cause.{first_cause, send_cause, tell_rows, IsAllowed}

-- The cause against an event of the station o after its log, in exercise x, by that log alone. Nothing in it speaks
-- against a receipt: causes 11 and 12 are about who may be heard, and about what others sent.
abbrev pub own_log_cause : ℕ → StationData → History → Event → Option Cause
own_log_cause x o log (Send s b) = option_and_then (send_cause x o log) (meaning x b)
own_log_cause x o log (Get s b) = None
own_log_cause x o log (Tell s e y) = first_cause (tell_rows y (state_after x o log e))

-- NO EVENT OF A LOG HAS A CAUSE BY THAT LOG ALONE, in exercise x at the station o
abbrev pub IsSoundLog : ℕ → StationData → History → Type 0
IsSoundLog x o [] = Unit {0}
IsSoundLog x o (v ∷ log) = IsSoundLog x o log × (own_log_cause x o log v ≡ None)

-- EACH RECEIPT of a history IS ALLOWED where it stands
abbrev pub AreReceiptsAllowed : SettingData → History → Type 0
AreReceiptsAllowed w [] = Unit {0}
AreReceiptsAllowed w (Send s b ∷ h) = AreReceiptsAllowed w h
AreReceiptsAllowed w (Get s b ∷ h) = AreReceiptsAllowed w h × IsAllowed w h (Get s b)
AreReceiptsAllowed w (Tell s e y ∷ h) = AreReceiptsAllowed w h
