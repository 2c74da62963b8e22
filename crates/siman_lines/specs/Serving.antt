-- The effect of datagrams that a station receives through its link (profile). Each list of datagrams has THE LAST
-- ONE FIRST.
use Rattle.std.specs.Prelude.{◌≡◌, ℕ, ◌+◌, ◌<◌, Bool, true, false, not, nat_le, List, [], ◌∷◌, ◌++◌, filter, length, reverse, Option, Some, None, Result, Ok, Err, is_some, slice_index, ◌⊎◌, if◌then◌else◌}
use Rattle.dis_records.specs.declared.header.TheConstants.{LARGEST_DATAGRAM}
use Rattle.siman_pdus.specs.declared.pdu.Pdu.{Pdu}
use Rattle.siman_pdus.specs.Reading.{reading}
use Rattle.siman_pdus.specs.Spelling.{pdu_text}
use Rattle.exercise_model.specs.Entry.{Entry, Received}
use Rattle.exercise_recording.specs.Writer.{WriterState}
use Rattle.siman_application.specs.Distinct.{with_request}
use Rattle.siman_application.specs.AppProfile.{AppProfile}
use Rattle.siman_application.specs.Play.{reply_after}
use Rattle.siman_application.specs.Application.{came}
use Rattle.siman_manager.specs.Answers.{taken}
use Rattle.siman_manager.specs.Book.{Book}
use Rattle.siman_stations.specs.declared.moment.Moment.{Moment}
use Rattle.siman_stations.specs.declared.turn.Node.{Node}
use Rattle.siman_stations.specs.declared.turn.TurnFault.{TurnFault}
use Rattle.siman_stations.specs.declared.turn.TurnFault.TheVariants as turn_faults
use Rattle.siman_stations.specs.Moments.{moment_of}
use Rattle.siman_stations.specs.Recording.{WritesOne, WritesNone}
use Rattle.siman_stations.specs.StationTurn.{sent_as, reply_due, turn_entries, RecordsAll, TakesBoth, FailsTurn as FailsHalves}
use Rattle.exercise_recording.specs.declared.fault.WriterFault.{WriterFault}
use Rattle.siman_lines.specs.declared.fault.ServeFault.{ServeFault}
use Rattle.siman_lines.specs.declared.fault.ServeFault.TheVariants as faults
use Rattle.siman_lines.specs.declared.served.Served.{Served}
use Rattle.siman_lines.specs.LineDatagrams.{Datagrams, Same, GrowsAll, Grows, MayGrow}

-- Datagrams that a station takes, each in its turn.

-- the distinct requests after one more datagram was taken, if it is read as a PDU
abbrev pub requests_with : AppProfile → List Pdu → Option Pdu → List Pdu
requests_with a ds None = ds
requests_with a ds (Some q) = with_request a ds q

abbrev pub pdus_after : AppProfile → List Pdu → Datagrams → List Pdu
pdus_after a ds [] = ds
pdus_after a ds (b ∷ bs) = requests_with a (pdus_after a ds bs) (reading b)

-- the orders after one more datagram was taken
abbrev pub taken_with : Book → Option Pdu → Book
taken_with k None = k
taken_with k (Some q) = taken k q

abbrev pub book_after : Book → Datagrams → Book
book_after k [] = k
book_after k (b ∷ bs) = taken_with (book_after k bs) (reading b)

-- the reply to a datagram, after these distinct requests
abbrev pub reply_with : AppProfile → List Pdu → Option Pdu → ℕ → Option Pdu
reply_with a ds None stamp = None
reply_with a ds (Some q) stamp = reply_after a ds q stamp

-- the reply to a datagram, after the earlier datagrams, with this timestamp
abbrev pub reply_at : AppProfile → List Pdu → ℕ → Datagrams → List ℕ → Option Pdu
reply_at a ds stamp bs b = reply_with a (pdus_after a ds bs) (reading b) stamp

-- THE ENTRIES: each datagram is received, and then the reply is sent, if one is due
abbrev pub entries_after : AppProfile → List Pdu → (s : ℕ) (at : Moment) → Datagrams → List Entry
entries_after a ds s at [] = []
entries_after a ds s at (b ∷ bs) = entries_after a ds s at bs ++ (Received s at.now b ∷ sent_as s at.now (reply_at a ds at.stamp bs b))

-- the text of a reply, if any
abbrev pub text_of : Option Pdu → Datagrams
text_of None = []
text_of (Some p) = pdu_text p ∷ []

-- THE TEXTS that are sent, in their order, with this timestamp
abbrev pub texts_after : AppProfile → List Pdu → ℕ → Datagrams → Datagrams
texts_after a ds stamp [] = []
texts_after a ds stamp (b ∷ bs) = texts_after a ds stamp bs ++ text_of (reply_at a ds stamp bs b)

-- manager and application took these datagrams, each in its turn, and exactly the entries of them are recorded
pub record HasTaken (s : ℕ) (at : Moment) (bs : Datagrams) (before after : Node) (old new : WriterState) : Type 0 where
  pub outfit : after.application.outfit ≡ before.application.outfit
  pub came_is : came after.application ≡ pdus_after before.application.outfit (came before.application) bs
  pub manager : after.manager ≡ book_after before.manager bs
  pub entries : RecordsAll WritesOne (entries_after before.application.outfit (came before.application) s at bs) old new

-- the texts that a station with this node sends, with this timestamp
abbrev pub texts_by : Node → ℕ → Datagrams → Datagrams
texts_by n stamp bs = texts_after n.application.outfit (came n.application) stamp bs

-- Received datagrams.

-- the numbers of a datagram are bytes
abbrev pub IsBytes : List ℕ → Type 0
IsBytes b = (i : ℕ) → slice_index b i < 256

-- a datagram of at most 8192 bytes, which is taken; a longer one is dropped
abbrev pub is_short : List ℕ → Bool
is_short b = nat_le (length b) LARGEST_DATAGRAM

abbrev pub is_long : List ℕ → Bool
is_long b = not (is_short b)

abbrev pub short_of : Datagrams → Datagrams
short_of us = filter is_short us

-- each datagram that is taken consists of bytes
abbrev pub AreBytes : Datagrams → Type 0
AreBytes [] = Unit {0}
AreBytes (b ∷ bs) = IsBytes b × AreBytes bs

-- the state of a station at its link: its node, its recorder, the datagrams that its link specifies, and how many
-- calls of the link failed
pub record State : Type 0 where
  pub node : Node
  pub recorder : WriterState
  pub received : Option Datagrams
  pub sent : Option Datagrams
  pub failures : ℕ

-- THE STATE AFTER a station received these datagrams through its link: the long ones are dropped, the others taken,
-- each in its turn, and each reply that was due was sent
pub record HasServed (s : ℕ) (at : Moment) (us : Datagrams) (old new : State) : Type 0 where
  pub taken : HasTaken s at (short_of us) old.node new.node old.recorder new.recorder
  pub received_are : GrowsAll old.received new.received (reverse us)
  pub sent_are : GrowsAll old.sent new.sent (texts_by old.node at.stamp (short_of us))
  pub bytes : AreBytes (short_of us)

-- TURNS THAT ENDED without a fault: the link worked, and all that the station received is counted; it made all its
-- receives, or fewer, and then it was idle
pub record Serves (s : ℕ) (at : Moment) (turns : ℕ) (old new : State) (served : Served) : Type 0 where
  pub datagrams : Datagrams
  pub done : HasServed s at datagrams old new
  pub worked : new.failures ≡ old.failures
  pub taken : served.taken ≡ length (short_of datagrams)
  pub dropped : served.dropped ≡ length (filter is_long datagrams)
  pub sent : served.sent ≡ length (texts_by old.node at.stamp (short_of datagrams))
  pub whole : served.idle ≡ false → served.taken + served.dropped ≡ turns
  pub idle : served.idle ≡ true → served.taken + served.dropped < turns

-- THE EFFECT OF A FAULT, after these datagrams were served.

-- a receive failed, and nothing else was done
pub record LosesReceive (s : ℕ) (at : Moment) (old new : State) : Type 0 where
  pub datagrams : Datagrams
  pub done : HasServed s at datagrams old new
  pub lost : old.failures < new.failures

-- the turn of one more datagram was done, and the send of its reply failed
pub record LosesSend (s : ℕ) (at : Moment) (old new : State) : Type 0 where
  pub earlier : Datagrams
  pub datagram : List ℕ
  pub answer : Pdu
  pub short : is_short datagram ≡ true
  pub due : reply_at old.node.application.outfit (came old.node.application) at.stamp (short_of earlier) datagram ≡ Some answer
  pub taken : HasTaken s at (datagram ∷ short_of earlier) old.node new.node old.recorder new.recorder
  pub received_are : GrowsAll old.received new.received (reverse (datagram ∷ earlier))
  pub before : Option Datagrams
  pub sent_are : GrowsAll old.sent before (texts_by old.node at.stamp (short_of earlier))
  pub may_be_sent : MayGrow before new.sent (pdu_text answer)
  pub bytes : AreBytes (datagram ∷ short_of earlier)
  pub lost : old.failures < new.failures

-- the turn of one more datagram was not done whole; nothing was sent for it
pub record BreaksTurn (s : ℕ) (at : Moment) (fault : TurnFault WriterFault) (old new : State) : Type 0 where
  pub earlier : Datagrams
  pub datagram : List ℕ
  pub short : is_short datagram ≡ true
  pub node : Node
  pub recorder : WriterState
  pub taken : HasTaken s at (short_of earlier) old.node node old.recorder recorder
  pub broken : FailsHalves WritesOne WritesNone s at datagram fault recorder new.recorder node new.node
  pub received_are : GrowsAll old.received new.received (reverse (datagram ∷ earlier))
  pub sent_are : GrowsAll old.sent new.sent (texts_by old.node at.stamp (short_of earlier))
  pub bytes : AreBytes (datagram ∷ short_of earlier)
  pub worked : new.failures ≡ old.failures

abbrev pub FailsServe : (s : ℕ) (at : Moment) → State → State → ServeFault → Type 0
FailsServe s at old new faults.Receive = LosesReceive s at old new
FailsServe s at old new faults.Send = LosesSend s at old new
FailsServe s at old new (faults.Record fault) = BreaksTurn s at (turn_faults.Record fault) old new
FailsServe s at old new faults.Memory = BreaksTurn s at turn_faults.Memory old new

-- THE EFFECT of at most so many turns at this moment
abbrev pub ServeEndsAt : (s : ℕ) (at : Moment) (turns : ℕ) → State → State → Result Served ServeFault → Type 0
ServeEndsAt s at turns old new (Ok served) = Serves s at turns old new served
ServeEndsAt s at turns old new (Err fault) = FailsServe s at old new fault

-- the same at the moment of a world at this time
abbrev pub ServeEnds : (s now turns : ℕ) → State → State → Result Served ServeFault → Type 0
ServeEnds s now turns old new result = ServeEndsAt s (moment_of now) turns old new result

-- One datagram.

-- the turn of a datagram was done, and the reply that was due was sent
pub record ServesOne (s : ℕ) (at : Moment) (b : List ℕ) (old new : State) : Type 0 where
  pub entries : RecordsAll WritesOne (turn_entries old.node.application s at b) old.recorder new.recorder
  pub halves : TakesBoth (reading b) old.node new.node
  pub sent_are : GrowsAll old.sent new.sent (text_of (reply_due old.node.application (reading b) at.stamp))
  pub received_are : Same old.received new.received
  pub worked : new.failures ≡ old.failures

-- the turn was done, and the send failed
pub record SendsNone (s : ℕ) (at : Moment) (b : List ℕ) (old new : State) : Type 0 where
  pub entries : RecordsAll WritesOne (turn_entries old.node.application s at b) old.recorder new.recorder
  pub halves : TakesBoth (reading b) old.node new.node
  pub answer : Pdu
  pub due : reply_due old.node.application (reading b) at.stamp ≡ Some answer
  pub may_be_sent : MayGrow old.sent new.sent (pdu_text answer)
  pub received_are : Same old.received new.received
  pub lost : old.failures < new.failures

-- the turn was not done whole
pub record BreaksOne (s : ℕ) (at : Moment) (b : List ℕ) (fault : TurnFault WriterFault) (old new : State) : Type 0 where
  pub broken : FailsHalves WritesOne WritesNone s at b fault old.recorder new.recorder old.node new.node
  pub sent_are : Same old.sent new.sent
  pub received_are : Same old.received new.received
  pub worked : new.failures ≡ old.failures

abbrev pub FailsOne : (s : ℕ) (at : Moment) → List ℕ → State → State → ServeFault → Type 0
FailsOne s at b old new faults.Receive = ⊥
FailsOne s at b old new faults.Send = SendsNone s at b old new
FailsOne s at b old new (faults.Record fault) = BreaksOne s at b (turn_faults.Record fault) old new
FailsOne s at b old new faults.Memory = BreaksOne s at b turn_faults.Memory old new

-- One receive.

-- nothing changed but the link
pub record Stays (old new : State) : Type 0 where
  pub node : new.node ≡ old.node
  pub recorder : new.recorder ≡ old.recorder
  pub received_are : Same old.received new.received
  pub sent_are : Same old.sent new.sent
  pub worked : new.failures ≡ old.failures

-- the link returned a datagram, and nothing else changed
pub record Hears (b : List ℕ) (old new : State) : Type 0 where
  pub node : new.node ≡ old.node
  pub recorder : new.recorder ≡ old.recorder
  pub received_are : Grows old.received new.received b
  pub sent_are : Same old.sent new.sent
  pub worked : new.failures ≡ old.failures

-- a long datagram was received and dropped
pub record DropsIt (old new : State) (turn : Served) : Type 0 where
  pub datagram : List ℕ
  pub hears : Hears datagram old new
  pub long : is_short datagram ≡ false
  pub told : turn ≡ record { taken = 0; sent = 0; dropped = 1; idle = false }

-- another datagram was received and served
pub record TakesIt (s : ℕ) (at : Moment) (old new : State) (turn : Served) : Type 0 where
  pub datagram : List ℕ
  pub heard : State
  pub hears : Hears datagram old heard
  pub short : is_short datagram ≡ true
  pub bytes : IsBytes datagram
  pub serves : ServesOne s at datagram heard new
  pub answered : Bool
  pub due : answered ≡ is_some (reply_due heard.node.application (reading datagram) at.stamp)
  pub told : turn ≡ record { taken = 1; sent = if answered then 1 else 0; dropped = 0; idle = false }

abbrev pub ServesTurn : (s : ℕ) (at : Moment) → State → State → Option Served → Type 0
ServesTurn s at old new None = Stays old new
ServesTurn s at old new (Some turn) = DropsIt old new turn ⊎ TakesIt s at old new turn

-- the receive failed
pub record HearsNone (old new : State) : Type 0 where
  pub node : new.node ≡ old.node
  pub recorder : new.recorder ≡ old.recorder
  pub received_are : Same old.received new.received
  pub sent_are : Same old.sent new.sent
  pub lost : old.failures < new.failures

-- the turn of the received datagram was not done whole
pub record FailsIt (s : ℕ) (at : Moment) (old new : State) (fault : ServeFault) : Type 0 where
  pub datagram : List ℕ
  pub heard : State
  pub hears : Hears datagram old heard
  pub short : is_short datagram ≡ true
  pub bytes : IsBytes datagram
  pub fails : FailsOne s at datagram heard new fault

abbrev pub FailsTurn : (s : ℕ) (at : Moment) → State → State → ServeFault → Type 0
FailsTurn s at old new faults.Receive = HearsNone old new
FailsTurn s at old new faults.Send = FailsIt s at old new faults.Send
FailsTurn s at old new (faults.Record fault) = FailsIt s at old new (faults.Record fault)
FailsTurn s at old new faults.Memory = FailsIt s at old new faults.Memory
