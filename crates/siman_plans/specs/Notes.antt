-- The notes on the lines of a plan: what a word of a line names, and the effect of a line (profile).
use Rattle.std.specs.Prelude.{ℕ, ◌+◌, Bool, true, false, nat_lt, List, [], ◌∷◌, ◌++◌, length, slice_get, Option, Some, None, ok_or, option_and_then, Result, Ok, Err, if◌then◌else◌}
use Rattle.std.specs.Option.{option_flatten}
use Rattle.siman_plans.specs.declared.deed.Deed.{Deed}
use Rattle.siman_plans.specs.declared.deed.Deed.TheVariants.{Set, Lost}
use Rattle.siman_plans.specs.declared.deed.PlannedLine.{PlannedLine}
use Rattle.siman_plans.specs.declared.source.Which.{Which}
use Rattle.siman_plans.specs.declared.source.Which.TheVariants.{Number, Labelled, Answer}
use Rattle.siman_plans.specs.declared.plan_fault.Unnamed.{Unnamed}
use Rattle.siman_plans.specs.declared.plan_fault.Unnamed.TheVariants.{LabelSendsNothing, NoAnswer, NeverBrought, NotSent}
use Rattle.siman_plans.specs.Plain.{at_text}
use Rattle.siman_plans.specs.Sent.{SentData, changed, meant, delivered, is_order, with_sent}

-- NOTES ON THE LINES SO FAR: the number of moves; the time of the clocks; of each label the datagram that its line
-- sent, if any; what became of each datagram; what each line did; and the plain lines
pub record NotesData : Type 0 where
  pub made : ℕ
  pub clock : ℕ
  pub labels : List (Option ℕ)
  pub sent : List SentData
  pub planned : List PlannedLine
  pub script : List ℕ

-- before the first line
abbrev pub no_notes : NotesData
no_notes = record { made = 0; clock = 0; labels = []; sent = []; planned = []; script = [] }

-- Names.

-- what is named, or why nothing is, is looked up further
abbrev pub named_then : {X Y : Type 0} → Result X Unnamed → (X → Result Y Unnamed) → Result Y Unnamed
named_then (Ok x) next = next x
named_then (Err why) next = Err why

-- the datagram that the line with this label sent
abbrev pub sent_by : NotesData → ℕ → Result ℕ Unnamed
sent_by n label = ok_or (option_flatten (slice_get n.labels label)) LabelSendsNothing

-- the last answer that a delivery of a datagram got
abbrev pub answer_to : NotesData → ℕ → Result ℕ Unnamed
answer_to n k = ok_or (option_and_then (λ d. d.answer) (slice_get n.sent k)) NoAnswer

-- the station to which a datagram was brought last
abbrev pub last_place : NotesData → ℕ → Result ℕ Unnamed
last_place n k = ok_or (option_and_then (λ d. d.last) (slice_get n.sent k)) NeverBrought

-- THE DATAGRAM THAT A WORD NAMES, or why it names none
abbrev pub named : NotesData → Which → Result ℕ Unnamed
named n (Number k) = Ok k
named n (Labelled label) = sent_by n label
named n (Answer label) = named_then (sent_by n label) (answer_to n)

-- the station that a line names, or that to which the datagram was brought last
abbrev pub place_of : NotesData → ℕ → Option ℕ → Result ℕ Unnamed
place_of n k (Some s) = Ok s
place_of n k None = last_place n k

-- a datagram that was sent so far
abbrev pub sent_before : NotesData → ℕ → Result ℕ Unnamed
sent_before n k = if nat_lt k (length n.sent) then Ok k else Err NotSent

-- Effects.

-- what a line did
abbrev pub with_deed : (line : ℕ) → Deed → List PlannedLine → List PlannedLine
with_deed line did planned = planned ++ record { line = line; did = did } ∷ []

-- the label that a line has, and the labels behind it
abbrev pub label_of : (is_labelled : Bool) → NotesData → Option ℕ
label_of false n = None
label_of true n = Some (length n.labels)

abbrev pub with_label : (is_labelled : Bool) → (sends : Option ℕ) → List (Option ℕ) → List (Option ℕ)
with_label false sends labels = labels
with_label true sends labels = labels ++ sends ∷ []

abbrev pub with_sent_data : List SentData → NotesData → NotesData
with_sent_data ds n = record n { sent = ds }

-- after a line that sets the clocks
abbrev pub after_at : (line : ℕ) → (now : ℕ) → NotesData → NotesData
after_at line now n = record n { clock = now; planned = with_deed line (Set (nat_lt now n.clock)) n.planned; script = n.script ++ at_text now }

-- after a line whose move was made: what it sent and did, and its plain line
abbrev pub after_deed : (line : ℕ) → (is_labelled : Bool) → (sends : Option ℕ) → Deed → (text : List ℕ) → NotesData → NotesData
after_deed line is_labelled sends did text n = record n {
  made = n.made + 1;
  labels = with_label is_labelled sends n.labels;
  sent = with_sent line (is_order did) sends (delivered did n.sent);
  planned = with_deed line did n.planned;
  script = n.script ++ text;
}

-- after a line which means that a datagram reaches nobody
abbrev pub after_loss : (line : ℕ) → (k : ℕ) → NotesData → NotesData
after_loss line k n = record n { sent = changed meant k n.sent; planned = with_deed line (Lost k) n.planned }
