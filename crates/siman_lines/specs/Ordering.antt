-- The effect of an order of a station, and of a repeat that is due (profile).
use Rattle.std.specs.Prelude.{◌≡◌, ℕ, ◌<◌, ◌≤◌, List, length, Bool, true, false, Some, None, Result, Ok, Err, is_some}
use Rattle.dis_records.specs.declared.header.TheConstants.{LARGEST_DATAGRAM}
use Rattle.siman_pdus.specs.declared.pdu.Pdu.{Pdu}
use Rattle.siman_pdus.specs.Spelling.{pdu_text}
use Rattle.exercise_model.specs.Entry.{Sent}
use Rattle.exercise_recording.specs.declared.fault.WriterFault.{WriterFault}
use Rattle.siman_manager.specs.declared.order.Order.{Order}
use Rattle.siman_manager.specs.Answers.{refusal_of, reported_by}
use Rattle.siman_manager.specs.Book.{next_id}
use Rattle.siman_stations.specs.declared.moment.Moment.{Moment}
use Rattle.siman_stations.specs.declared.turn.Node.{Node}
use Rattle.siman_stations.specs.Moments.{moment_of}
use Rattle.siman_stations.specs.Sending.{next_order, after_order, next_repeat, after_tick}
use Rattle.siman_stations.specs.Recording.{WritesOne, WritesNone}
use Rattle.siman_stations.specs.Sending.{IsOrderInRange}
use Rattle.siman_lines.specs.declared.fault.IssueFault.{IssueFault}
use Rattle.siman_lines.specs.declared.fault.IssueFault.TheVariants as faults
use Rattle.siman_lines.specs.LineDatagrams.{Same, Grows, MayGrow}
use Rattle.siman_lines.specs.Serving.{State}

-- A text, without the node.

-- the text is recorded as sent, and was sent
pub record SendsText (s now : ℕ) (text : List ℕ) (old new : State) : Type 0 where
  pub entry : WritesOne old.recorder (Sent s now text) new.recorder
  pub sent_are : Grows old.sent new.sent text
  pub received_are : Same old.received new.received
  pub worked : new.failures ≡ old.failures

-- the text is recorded as sent, and the send failed
pub record LosesText (s now : ℕ) (text : List ℕ) (old new : State) : Type 0 where
  pub entry : WritesOne old.recorder (Sent s now text) new.recorder
  pub may_be_sent : MayGrow old.sent new.sent text
  pub received_are : Same old.received new.received
  pub lost : old.failures < new.failures

-- the text was not recorded and not sent
pub record KeepsText (s now : ℕ) (text : List ℕ) (fault : WriterFault) (old new : State) : Type 0 where
  pub refused : WritesNone old.recorder (Sent s now text) fault new.recorder
  pub sent_are : Same old.sent new.sent
  pub received_are : Same old.received new.received
  pub worked : new.failures ≡ old.failures

-- nothing was recorded or sent
pub record Rests (old new : State) : Type 0 where
  pub recorder : new.recorder ≡ old.recorder
  pub sent_are : Same old.sent new.sent
  pub received_are : Same old.received new.received
  pub worked : new.failures ≡ old.failures

-- the effect of a failed step of recording and sending
abbrev pub FailsText : (s now : ℕ) → List ℕ → State → State → IssueFault → Type 0
FailsText s now text old new (faults.Order fault) = ⊥
FailsText s now text old new faults.Send = LosesText s now text old new
FailsText s now text old new (faults.Record fault) = KeepsText s now text fault old new
FailsText s now text old new faults.Memory = ⊥

-- An order.

-- the manager made the order
pub record Makes (at : Moment) (order : Order) (old new : Node) : Type 0 where
  pub made : refusal_of old.manager order at.stamp ≡ None
  pub in_range : IsOrderInRange order
  pub halves : new ≡ after_order old at order

-- A NEW ORDER was sent
pub record Issues (s : ℕ) (at : Moment) (order : Order) (old new : State) (id : ℕ) : Type 0 where
  pub makes : Makes at order old.node new.node
  pub id_is : id ≡ next_id old.node.manager.settings (length old.node.manager.orders)
  pub size : length (pdu_text (next_order old.node.manager at.stamp order)) ≤ LARGEST_DATAGRAM
  pub goes : SendsText s at.now (pdu_text (next_order old.node.manager at.stamp order)) old new

-- the manager made the order, which was not sent, with this effect on the rest
pub record Withholds (at : Moment) (order : Order) (old new : State) (Left : List ℕ → Type 0) : Type 0 where
  pub makes : Makes at order old.node new.node
  pub size : length (pdu_text (next_order old.node.manager at.stamp order)) ≤ LARGEST_DATAGRAM
  pub left : Left (pdu_text (next_order old.node.manager at.stamp order))

-- THE EFFECT OF A FAULT in an order: only a refusal leaves the manager unchanged
abbrev pub FailsIssue : (s : ℕ) (at : Moment) → Order → State → State → IssueFault → Type 0
FailsIssue s at order old new (faults.Order fault) =
    (refusal_of old.node.manager order at.stamp ≡ reported_by fault) × (new.node ≡ old.node) × Rests old new
FailsIssue s at order old new faults.Send = Withholds at order old new (λ text. LosesText s at.now text old new)
FailsIssue s at order old new (faults.Record fault) = Withholds at order old new (λ text. KeepsText s at.now text fault old new)
FailsIssue s at order old new faults.Memory = Makes at order old.node new.node × Rests old new

-- THE EFFECT OF AN ORDER at this moment
abbrev pub IssueEndsAt : (s : ℕ) (at : Moment) → Order → State → State → Result ℕ IssueFault → Type 0
IssueEndsAt s at order old new (Ok id) = Issues s at order old new id
IssueEndsAt s at order old new (Err fault) = FailsIssue s at order old new fault

-- the same at the moment of a world at this time
abbrev pub IssueEnds : (s now : ℕ) → Order → State → State → Result ℕ IssueFault → Type 0
IssueEnds s now order old new result = IssueEndsAt s (moment_of now) order old new result

-- A repeat. The tick of the manager is made in any case.

-- A DUE REPEAT was sent
pub record Repeats (s : ℕ) (at : Moment) (old new : State) : Type 0 where
  pub repeat : Pdu
  pub due : next_repeat old.node.manager at ≡ Some repeat
  pub size : length (pdu_text repeat) ≤ LARGEST_DATAGRAM
  pub goes : SendsText s at.now (pdu_text repeat) old new

abbrev pub Nudges : (s : ℕ) (at : Moment) → State → State → Bool → Type 0
Nudges s at old new true = (new.node ≡ after_tick old.node at) × Repeats s at old new
-- no repeat was due
Nudges s at old new false = (new.node ≡ after_tick old.node at) × (next_repeat old.node.manager at ≡ None) × Rests old new

-- a repeat was due and was not sent, with this effect on the rest
pub record Delays (at : Moment) (old : State) (Left : List ℕ → Type 0) : Type 0 where
  pub repeat : Pdu
  pub due : next_repeat old.node.manager at ≡ Some repeat
  pub size : length (pdu_text repeat) ≤ LARGEST_DATAGRAM
  pub left : Left (pdu_text repeat)

abbrev pub FailsNudge : (s : ℕ) (at : Moment) → State → State → IssueFault → Type 0
FailsNudge s at old new (faults.Order fault) = ⊥
FailsNudge s at old new faults.Send = (new.node ≡ after_tick old.node at) × Delays at old (λ text. LosesText s at.now text old new)
FailsNudge s at old new (faults.Record fault) = (new.node ≡ after_tick old.node at) × Delays at old (λ text. KeepsText s at.now text fault old new)
FailsNudge s at old new faults.Memory = (new.node ≡ after_tick old.node at) × (is_some (next_repeat old.node.manager at) ≡ true) × Rests old new

-- THE EFFECT OF A NUDGE at this moment
abbrev pub NudgeEndsAt : (s : ℕ) (at : Moment) → State → State → Result Bool IssueFault → Type 0
NudgeEndsAt s at old new (Ok due) = Nudges s at old new due
NudgeEndsAt s at old new (Err fault) = FailsNudge s at old new fault

-- the same at the moment of a world at this time
abbrev pub NudgeEnds : (s now : ℕ) → State → State → Result Bool IssueFault → Type 0
NudgeEnds s now old new result = NudgeEndsAt s (moment_of now) old new result
