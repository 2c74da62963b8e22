-- A SESSION: one post, played by the lines of a text (profile).
use Rattle.std.specs.Prelude.{◌≡◌, ℕ, ◌+◌, max, Bool, true, false, List, [], ◌∷◌, ◌++◌, codes, Option, Some, None, if◌then◌else◌}
use Rattle.std.specs.List.{AllByRecursion}
use Rattle.byte_files.specs.Writing.{Writes}
use Rattle.dis_records.specs.declared.address.SiteApplication.{SiteApplication}
use Rattle.siman_lines.specs.declared.line.PassedOver.{PassedOver}
use Rattle.siman_lines.specs.AtLines.{Telling}
use Rattle.siman_operator.specs.declared.tracing_line.TracingLine.{TracingLine}
use Rattle.siman_operator.specs.declared.printing.PrintFault.{PrintFault}
use Rattle.siman_scripts.specs.declared.command.Command.{Command}
use Rattle.siman_scripts.specs.declared.command.Command.TheVariants as commands
use Rattle.siman_scripts.specs.declared.command.StationTask.TheVariants as tasks
use Rattle.siman_operator.specs.Deeds.{PostData, printed, GoesOn, at_time, ticks_at}
use Rattle.siman_operator.specs.Noting.{telling}
use Rattle.siman_operator.specs.Posts.{TakesLine, is_over}
use Rattle.siman_operator.specs.declared.came.Came.{Came}
use Rattle.siman_operator.specs.declared.playing.Played.{Played}
use Rattle.siman_operator.specs.declared.playing.Stop.{Stop}
use Rattle.siman_operator.specs.declared.playing.Stop.TheVariants as stops
use Rattle.siman_operator.specs.declared.session_report.SessionReport.{SessionReport}
use Rattle.siman_operator.specs.Came.{status_of, result_of}
use Rattle.siman_operator.specs.Closing.{Closes}
use Rattle.byte_files.specs.Lines.{AreLines, AreFirstLines}
use Rattle.siman_operator.specs.Reading.{said_by}
use Rattle.siman_operator.specs.Reason.{Reasons}
use Rattle.siman_operator.specs.Receiver.{WarnsOf}
use Rattle.siman_operator.specs.Told.{WritesMore, closed_status, closed_text, unread_text}
use Rattle.std.specs.Prelude.{Result}

-- Lines.

-- why printing stopped at this line; none, if it goes on or had stopped before
abbrev pub print_stop_at : (before after : Option PrintFault) → Option PrintFault
print_stop_at None after = after
print_stop_at (Some fault) after = None

-- what a post took, the time that the system's clock showed then, and the result: a line of the text; or, between
-- lines, datagrams that had come, as an empty line takes them; or a tick by itself
pub record Taken : Type 0 where
  pub line : List ℕ
  pub typed : Bool
  pub ticks : Bool
  pub time : ℕ
  pub came : Came

-- the command of what is taken: that of the line, or the repeat that the station's own tick asks for
abbrev pub command_taken : (own : SiteApplication) → (ticks : Bool) → (line : List ℕ) → Option Command
command_taken own ticks line = if ticks then Some (commands.Asks own tasks.Repeat) else said_by line

-- A LINE IS TAKEN as the command that it says, what comes between lines as an empty one, and a tick exactly where an
-- order is due by the system's clock; each at the time that the clock shows then. A bad line has its reason in the
-- result, and an order that no station of the script receives has its receiver there
pub record TakesOne {L : Type 0} (stations : List SiteApplication) (told : Telling (TracingLine L)) (t : Taken) (old new : PostData L) : Type 0 where
  pub untyped : t.typed ≡ false → t.line ≡ []
  pub own : t.ticks ≡ true → t.typed ≡ false
  pub ticks : t.ticks ≡ ticks_at old
  pub takes : TakesLine told (command_taken old.address t.ticks t.line) (at_time t.time old) new t.came.line
  pub print_stop : t.came.print_stop ≡ print_stop_at old.fault new.fault
  pub site : t.came.site ≡ old.address.site
  pub application : t.came.application ≡ old.address.application
  pub reason : Reasons t.line t.came.line.done t.came.reason
  pub nobody : WarnsOf stations (said_by t.line) t.came.line.done t.came.nobody

-- LINES ARE TAKEN, one after the other
abbrev pub TakesAll : {L : Type 0} → (stations : List SiteApplication) → Telling (TracingLine L) → List Taken → (old new : PostData L) → Type 0
TakesAll stations told [] old new = new ≡ old
TakesAll {L} stations told (t ∷ ts) old new = (mid : PostData L) × TakesOne stations told t old mid × TakesAll stations told ts mid new

-- the lines of the text among them
abbrev pub line_of : Taken → List (List ℕ)
line_of t = if t.typed then t.line ∷ [] else []

abbrev pub lines_in : List Taken → List (List ℕ)
lines_in [] = []
lines_in (t ∷ ts) = line_of t ++ lines_in ts

-- how many lines of the text were taken, given how many were before
abbrev pub number_after : (number : ℕ) → Taken → ℕ
number_after n t = if t.typed then n + 1 else n

-- THE REPORT, given how many lines were taken before. A line is reported by its number, from 1, and what failed
-- between lines by the number of the line before, or 0.
abbrev pub told_from : (number : ℕ) → List Taken → List ℕ
told_from n [] = []
told_from n (t ∷ ts) = result_of (number_after n t) t.came ++ told_from (number_after n t) ts

-- the worst exit status
abbrev pub worst_of : List Taken → ℕ
worst_of [] = 0
worst_of (t ∷ ts) = max (status_of t.came) (worst_of ts)

-- The stop.

-- after each of these lines a further line may be taken
abbrev pub MayGoOn : List Taken → Type 0
MayGoOn ts = AllByRecursion (λ t. is_over t.came.line ≡ false) ts

-- an entry was not recorded at the last of these lines, and at no other
abbrev pub IsOver : List Taken → Type 0
IsOver ts = (front : List Taken) × (last : Taken) × (ts ≡ front ++ last ∷ []) × MayGoOn front × (is_over last.came.line ≡ true)

-- the line that ends a session
abbrev pub quit_line : List ℕ
quit_line = codes "quit"

-- WHY NO FURTHER LINE IS TAKEN: all lines of the text were taken; or only the first ones, since the next one says
-- `quit`, a read failed, or an entry was not recorded at the last one
abbrev pub Stops : (known : Option (List ℕ)) → Stop → List Taken → Type 0
Stops known stops.End ts = MayGoOn ts × AreLines known (lines_in ts)
Stops known stops.Quit ts = MayGoOn ts × AreFirstLines known (lines_in ts ++ quit_line ∷ [])
Stops known stops.Unread ts = MayGoOn ts × AreFirstLines known (lines_in ts)
Stops known stops.Unrecorded ts = IsOver ts × AreFirstLines known (lines_in ts)

-- THE LINES OF A TEXT ARE PLAYED: taken up to the stop, and reported, with their worst status
pub record PlaysLines {L : Type 0} (stations : List SiteApplication) (told : Telling (TracingLine L)) (known : Option (List ℕ)) (old new : PostData L)
    (errors errors_after : Option (List ℕ)) (played : Played) : Type 0 where
  pub taken : List Taken
  pub takes : TakesAll stations told taken old new
  pub stops : Stops known played.stop taken
  pub status : played.told.status ≡ worst_of taken
  pub tells : Writes played.told.written errors errors_after (told_from 0 taken)

-- The whole session.

-- the recording is ended and its counts are printed, and a failure of either is reported
pub record ClosesAt {L : Type 0} (passed : L → PassedOver) (old new : PostData L) (out out_after : Option (List ℕ)) (before after : SessionReport) (errors errors_after : Option (List ℕ)) : Type 0 where
  pub closed : Result (Unit {0}) PrintFault
  pub closes : Closes passed old new out out_after closed
  pub status : after.status ≡ max before.status (closed_status closed)
  pub tells : WritesMore before.written after.written errors errors_after (closed_text closed)

-- a failed read is reported
pub record ReportsUnread (before after : SessionReport) (errors errors_after : Option (List ℕ)) : Type 0 where
  pub status : after.status ≡ max before.status 2
  pub tells : WritesMore before.written after.written errors errors_after unread_text

-- THE END OF A SESSION, by why its lines stopped: at the end of the text, at `quit`, or after a failed read, the
-- recording is ended; if an entry was not recorded, nothing more is done
abbrev pub EndsSession : {L : Type 0} → (passed : L → PassedOver) → Stop → (old new : PostData L) → (out out_after : Option (List ℕ)) → (before after : SessionReport)
    → (errors errors_after : Option (List ℕ)) → Type 0
EndsSession passed stops.End old new out out_after before after errors errors_after =
    ClosesAt passed old new out out_after before after errors errors_after
EndsSession passed stops.Quit old new out out_after before after errors errors_after =
    ClosesAt passed old new out out_after before after errors errors_after
EndsSession passed stops.Unread old new out out_after before after errors errors_after =
    (told : SessionReport) × (mid : Option (List ℕ)) × ReportsUnread before told errors mid × ClosesAt passed old new out out_after told after mid errors_after
EndsSession passed stops.Unrecorded old new out out_after before after errors errors_after =
    (new ≡ old) × (out_after ≡ out) × (after ≡ before) × (errors_after ≡ errors)

-- A POST IS PLAYED by the lines of a text, to the end, with these stations in its script
pub record Plays {L : Type 0} (stations : List SiteApplication) (passed : L → PassedOver) (known : Option (List ℕ)) (old new : PostData L) (out out_after errors errors_after : Option (List ℕ)) (told : SessionReport) : Type 0 where
  -- the post after the lines, the output and the reports so far
  pub mid : PostData L
  pub out_so_far : Option (List ℕ)
  pub errors_so_far : Option (List ℕ)
  pub played : Played
  pub lines : PlaysLines stations (telling passed) known old mid errors errors_so_far played
  pub goes : GoesOn (printed old out) (printed mid out_so_far)
  pub ends : EndsSession passed played.stop mid new out_so_far out_after played.told told errors_so_far errors_after
