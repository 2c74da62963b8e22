-- What comes to a session next: a line of its text, or datagrams before the line is whole (profile).
use Rattle.std.specs.Prelude.{◌≡◌, ◌≤◌, ℕ, ◌+◌, Bool, true, false, ◌||◌, List, length, take, Option, Some, None, if◌then◌else◌}
use Rattle.std.specs.Io.KnownBytes.{Consumes, IsAtEnd}
use Rattle.byte_files.specs.Lines.{IsOneLine, HoldsLine}
use Rattle.std.specs.Bool.{MatchBool}
use Rattle.siman_lines.specs.declared.input.Ready.{Ready}
use Rattle.siman_operator.specs.Clocks.{is_reached, wait_end}
use Rattle.siman_operator.specs.Deeds.{PostData, ticks_at}
use Rattle.siman_operator.specs.declared.coming.Come.{Come}
use Rattle.siman_operator.specs.declared.coming.Coming.{Coming}
use Rattle.siman_operator.specs.declared.coming.Coming.TheVariants as comings

-- A LINE HAS BEGUN: of the text `rest` these bytes were read, none of which is a line feed, `now` follows, and the
-- first `held` of them are at the front of the buffer: all, or as many as fit
pub record HasBegun (rest now : Option (List ℕ)) (buffer : List ℕ) (held : ℕ) : Type 0 where
  pub line : List ℕ
  pub one : IsOneLine line
  pub read : Consumes rest now line
  pub within : held ≤ length buffer
  pub front : take held buffer ≡ take (length buffer) line

-- WHAT COMES NEXT of the text `rest`: datagrams or a tick, and the line has begun so far; or the line, which the buffer has, and
-- the next one has not begun; or the end
abbrev pub Comes : (rest now : Option (List ℕ)) → (buffer : List ℕ) → (held : ℕ) → Coming → Type 0
Comes rest now buffer held comings.Tick = HasBegun rest now buffer held
Comes rest now buffer held comings.Datagrams = HasBegun rest now buffer held
Comes rest now buffer held (comings.Line size) = HoldsLine rest now buffer size × (held ≡ 0)
Comes rest now buffer held comings.End = IsAtEnd rest

-- how much of it is in the buffer, if something is to be taken: as much of the line as is held, or else nothing
abbrev pub size_of : Coming → Option ℕ
size_of comings.Tick = Some 0
size_of comings.Datagrams = Some 0
size_of (comings.Line size) = Some size
size_of comings.End = None

-- how many lines have come, given how many came before
abbrev pub number_by : (number : ℕ) → Coming → ℕ
number_by n comings.Tick = n
number_by n comings.Datagrams = n
number_by n (comings.Line size) = n + 1
number_by n comings.End = n

-- whether it is a tick
abbrev pub is_tick : Coming → Bool
is_tick comings.Tick = true
is_tick comings.Datagrams = false
is_tick (comings.Line size) = false
is_tick comings.End = false

-- after one more byte: the line has begun so far, or this comes
abbrev pub ComesBy : (rest now : Option (List ℕ)) → (buffer : List ℕ) → (held : ℕ) → Option Coming → Type 0
ComesBy rest now buffer held None = HasBegun rest now buffer held
ComesBy rest now buffer held (Some coming) = Comes rest now buffer held coming

-- the same, of whatever text of which a line had begun before
abbrev pub GoesOnBy : (old new : Option (List ℕ)) → (buffer buffer_after : List ℕ) → (held held_after : ℕ) → Option Coming → Type 0
GoesOnBy old new buffer buffer_after held held_after step =
    (rest : Option (List ℕ)) → HasBegun rest old buffer held → ComesBy rest new buffer_after held_after step

-- Why it comes.

-- whether the text says it: a line that is whole, or the end of the text
abbrev pub is_of_text : Coming → Bool
is_of_text comings.Tick = false
is_of_text comings.Datagrams = false
is_of_text (comings.Line size) = true
is_of_text comings.End = true

-- WHY A WAIT UNTIL A TIME ENDED, by what it found last. A line or the end of the text comes only where there was text;
-- datagrams, only where some may have come, or where the time that the system's clock showed has reached the end of the
-- wait. Nothing waits for a tick
abbrev pub ends_wait : (until : Option ℕ) → (found : Ready) → Coming → Bool
ends_wait until found comings.Tick = false
ends_wait until found comings.Datagrams = found.datagrams || is_reached until found.time
ends_wait until found (comings.Line size) = found.text
ends_wait until found comings.End = found.text

-- WHAT COMES AFTER A WAIT, by what it found and what the text says then, if anything. It goes on only where the text says
-- nothing, no datagrams may have come, and the time that the system's clock showed has not reached its end
abbrev pub come_of : (until : Option ℕ) → (found : Ready) → (said : Option Coming) → Option Come
come_of until found (Some coming) = Some (record { coming = coming; until = until; found = found })
come_of until found None =
    if found.datagrams || is_reached until found.time then Some (record { coming = comings.Datagrams; until = until; found = found }) else None

-- what is found where nothing waits
abbrev pub unwaited : (time : ℕ) → Ready
unwaited time = record { text = false; datagrams = false; time = time }

-- WHY THIS COMES TO A POST: a tick at once, at the time of its clock, exactly where an order is due by the system's
-- clock; and else what ended its wait, which lasts until the next order is due
abbrev pub ComesTo : {L : Type 0} → PostData L → Come → Type 0
ComesTo p come =
    MatchBool (ticks_at p) (come ≡ record { coming = comings.Tick; until = wait_end p.source p.station.node.manager; found = unwaited p.clock.now })
    (ends_wait (wait_end p.source p.station.node.manager) come.found come.coming ≡ true)
