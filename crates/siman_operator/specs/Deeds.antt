-- THE STATION OF A POST: its link logs what goes through it, and the rows of its entries are printed as they are
-- recorded (profile).
use Rattle.std.specs.Prelude.{◌≡◌, ℕ, ◌+◌, ◌-◌, ◌^◌, min, ◌==◌, Bool, ◌&&◌, List, length, Option, Some, Result, Ok, Err, ◌++◌}
use Rattle.std.specs.Bool.{MatchBool}
use Rattle.dis_records.specs.declared.address.SiteApplication.{SiteApplication}
use Rattle.exercise_model.specs.Entry.{Entry, Sent, Received}
use Rattle.exercise_model.specs.Recording.{PlainRecording}
use Rattle.exercise_recording.specs.Writer.{WriterState}
use Rattle.siman_stations.specs.declared.moment.Moment.{Moment}
use Rattle.siman_stations.specs.declared.turn.Node.{Node}
use Rattle.siman_lines.specs.declared.fault.ServeFault.{ServeFault}
use Rattle.siman_lines.specs.declared.served.Served.{Served}
use Rattle.siman_lines.specs.declared.station_at_line.StationAtLine.{StationAtLine}
use Rattle.siman_lines.specs.AtLines.{Telling, state_at}
use Rattle.siman_lines.specs.KeptAtLine.{IsWritten, IsKept}
use Rattle.siman_lines.specs.LineDatagrams.{Datagrams}
use Rattle.siman_lines.specs.Serving.{ServeEndsAt}
use Rattle.siman_operator.specs.Clocks.{clock_at, is_system, has_due}
use Rattle.siman_operator.specs.declared.clock.ClockSource.{ClockSource}
use Rattle.siman_operator.specs.declared.post.Post.{Post}
use Rattle.siman_operator.specs.declared.printing.PrintFault.{PrintFault}
use Rattle.siman_operator.specs.declared.tracing_line.TracingLine.{TracingLine}
use Rattle.siman_operator.specs.Noted.{last_of}
use Rattle.siman_operator.specs.Noting.{datagrams_sent, datagrams_received}
use Rattle.siman_manager.specs.Book.{Book}
use Rattle.siman_lines.specs.declared.fault.AtLineFault.{AtLineFault}
use Rattle.siman_operator.specs.Notes.{tick_rows, help_rows, status_rows}
use Rattle.siman_operator.specs.declared.reading.Question.{Question}
use Rattle.siman_operator.specs.declared.reading.Question.TheVariants as questions
use Rattle.siman_lines.specs.declared.line.PassedOver.{PassedOver}
use Rattle.siman_operator.specs.Printing.{Printing, IsPrinted, PrintsEntry, PrintsNothing, StopsPrinting, MayNote}

-- Printing.

-- the printing of a sent datagram, if one was recorded since the recording had so many entries and the link had
-- sent so many datagrams
abbrev pub PrintsSent : {L : Type 0} → StationAtLine (TracingLine L) → (recorded now entries sent : ℕ) → (old new : Printing) → Type 0
PrintsSent p recorded now entries sent old new =
    MatchBool (recorded == entries) (PrintsNothing old new)
    (MatchBool (length (datagrams_sent p.line) == sent) (StopsPrinting old new)
    (PrintsEntry (Sent p.index now (last_of (datagrams_sent p.line))) old new))

-- THE PRINTING OF A CALL that may have sent a datagram
abbrev pub PrintsCall : {L : Type 0} → (now : ℕ) → (p : StationAtLine (TracingLine L)) → (w : WriterState) → (q : StationAtLine (TracingLine L)) → (v : WriterState)
    → (old new : Printing) → Type 0
PrintsCall now p w q v old new = PrintsSent q v.entries now w.entries (length (datagrams_sent p.line)) old new

-- the printing of a turn, since the link had also returned so many datagrams
abbrev pub PrintsTurn : {L : Type 0} → StationAtLine (TracingLine L) → (recorded now entries received sent : ℕ) → (old new : Printing) → Type 0
PrintsTurn p recorded now entries received sent old new =
    MatchBool (recorded == entries) (PrintsNothing old new)
    (MatchBool (length (datagrams_received p.line) - received == 1)
    ((mid : Printing) × PrintsEntry (Received p.index now (last_of (datagrams_received p.line))) old mid
    × PrintsSent p recorded now (entries + 1) sent mid new)
    (StopsPrinting old new))

-- what a tick did is noted, if it was done
abbrev pub NotesTick : Book → (now : ℕ) → Result (Unit {0}) AtLineFault → (mid new : Printing) → Type 0
NotesTick b now (Ok done) mid new = MayNote (tick_rows b now) mid new
NotesTick b now (Err fault) mid new = new ≡ mid

-- The invariant.

-- the number of dropped datagrams after a service
abbrev pub dropped_after : ℕ → Result Served ServeFault → ℕ
dropped_after n (Ok served) = min (n + served.dropped) (2 ^ 64 - 1)
dropped_after n (Err fault) = n

-- THE STATION IS SERVED FOR ONE RECEIVE at this moment
pub record ServesOnce {L : Type 0} (told : Telling L) (at : Moment) (p : StationAtLine L) (w : WriterState) (q : StationAtLine L) (v : WriterState)
    (result : Result Served ServeFault) : Type 0 where
  pub ends : ServeEndsAt p.index at 1 (state_at told p w) (state_at told q v) result
  pub index : q.index ≡ p.index
  pub dropped : q.dropped ≡ dropped_after p.dropped result
  pub busy : q.busy ≡ p.busy

-- A POST: its station, its recorder, the recording of the entries whose rows were made, why printing stopped, if it
-- has, its address, its clock and what sets it
pub record PostData (L : Type 0) : Type 0 where
  pub station : StationAtLine (TracingLine L)
  pub recorder : WriterState
  pub log : PlainRecording
  pub fault : Option PrintFault
  pub address : SiteApplication
  pub clock : Moment
  pub source : ClockSource

-- what contracts see of a post
abbrev pub data_of : {L W : Type 0} → Post L W → PostData L
data_of p = record { station = p.station; recorder = p.recorder; log = p.printer.log; fault = p.printer.fault; address = p.address; clock = p.clock; source = p.source }

-- what a line asks of a session is answered; nothing is printed, if it asks nothing
abbrev pub AnswersQuestion : {L : Type 0} → (passed : L → PassedOver) → Question → PostData L → (old new : Printing) → Type 0
AnswersQuestion passed questions.Nothing p old new = PrintsNothing old new
AnswersQuestion passed questions.Help p old new = MayNote (help_rows (is_system p.source)) old new
AnswersQuestion passed questions.Status p old new =
    (lost : Option ℕ) × MayNote (status_rows p.address p.station.node p.clock.now p.recorder.entries p.station.dropped (passed p.station.line.line) lost) old new

-- neither the address of a post nor its clock changes
abbrev pub IsAtSameTime : {L : Type 0} → (old new : PostData L) → Type 0
IsAtSameTime old new = (new.address ≡ old.address) × (new.clock ≡ old.clock) × (new.source ≡ old.source)

-- the post where something is taken, given what the system's clock shows
abbrev pub at_time : {L : Type 0} → (time : ℕ) → PostData L → PostData L
at_time time p = record p { clock = clock_at p.source time p.clock }

-- WHETHER A POST TICKS BY ITSELF: an order is due by the system's clock
abbrev pub ticks_at : {L : Type 0} → PostData L → Bool
ticks_at p = is_system p.source && has_due p.station.node.manager p.clock.now

-- the station of a post, with its recorder and its printing
pub record PostState (L : Type 0) : Type 0 where
  pub station : StationAtLine (TracingLine L)
  pub recorder : WriterState
  pub printing : Printing

-- the state of a post, with this output
abbrev pub printed : {L : Type 0} → PostData L → (out : Option (List ℕ)) → PostState L
printed p out = record { station = p.station; recorder = p.recorder; printing = record { out = out; log = p.log; fault = p.fault } }

-- if some entries are written whole and the invariant of a station holds, more entries are, and it holds of them
abbrev pub KeepsAll : ℕ → (n : Node) → (w : WriterState) → (handed : Datagrams) → (m : Node) → (v : WriterState) → (handed_after : Datagrams) → Type 0
KeepsAll s n w handed m v handed_after =
    (before : Option (List ℕ)) (es : List Entry) → IsWritten before w es → IsKept s n w es (Some handed)
    → (more : List Entry) × (v.setting ≡ w.setting) × IsWritten before v (es ++ more) × IsKept s m v (es ++ more) (Some handed_after)

-- if some entries are written whole and their rows are printed, more entries are, and the rows of all of them
abbrev pub PrintsAll : (w v : WriterState) → (old new : Printing) → Type 0
PrintsAll w v old new =
    (before start : Option (List ℕ)) (es : List Entry) → IsWritten before w es → IsPrinted start es old
    → (more : List Entry) × IsWritten before v (es ++ more) × IsPrinted start (es ++ more) new

-- A POST GOES ON, with faults too: its station and the setting of its rows do not change, the invariant is preserved,
-- and the printed rows are those of its entries
pub record GoesOn {L : Type 0} (old new : PostState L) : Type 0 where
  pub index : new.station.index ≡ old.station.index
  pub setting : new.printing.log.setting ≡ old.printing.log.setting
  pub keeps : KeepsAll old.station.index old.station.node old.recorder (datagrams_sent old.station.line) new.station.node new.recorder (datagrams_sent new.station.line)
  pub prints : PrintsAll old.recorder new.recorder old.printing new.printing
