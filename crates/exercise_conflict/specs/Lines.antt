-- The rows of conflicts and refusals.
use Rattle.std.specs.Prelude.{ℕ, ◌<◌, ⊤, Bool, true, false, List, [], ◌∷◌, ◌++◌, map, length, codes, Option, Some, None}
use Rattle.dis_records.specs.declared.address.SiteApplication.{SiteApplication}
use Rattle.dis_records.specs.Entity.{entity_of, site_application_of}
use Rattle.dis_records.specs.Texts.{entity_text, state_text}
use Rattle.dis_records.specs.declared.entity.EntityId.{EntityId}
use Rattle.dis_records.specs.declared.entity_state.EntityState.{EntityState}
use Rattle.exercise_model.specs.declared.cause.Cause.{Cause}
use Rattle.exercise_model.specs.Numbers.{cause_number, cause_text}
use Rattle.exercise_model.specs.Recording.{PlainRecording}
use Rattle.exercise_model.specs.History.{station_at}
use Rattle.exercise_conflict.specs.declared.clash.Clash.{Clash}
use Rattle.exercise_conflict.specs.declared.clash.Clash.TheVariants as clashes
use Rattle.exercise_conflict.specs.declared.clash.AnswerMismatch.{AnswerMismatch}
use Rattle.exercise_conflict.specs.declared.clash.AnswerMismatch.TheVariants as unfit
use Rattle.exercise_conflict.specs.declared.blame.Blame.{Blame}
use Rattle.exercise_conflict.specs.declared.blame.Blame.TheVariants as faults
use Rattle.exercise_conflict.specs.declared.field.PduField.{PduField as Difference}
use Rattle.exercise_conflict.specs.declared.lacks.MissingSend.{MissingSend}
use Rattle.exercise_conflict.specs.declared.repair.Repair.{Repair}
use Rattle.exercise_conflict.specs.declared.step_clash.StepClash.{StepClash}
use Rattle.exercise_conflict.specs.declared.step_clash.StepClash.TheVariants as steps
use Rattle.exercise_conflict.specs.declared.waits.Wait.{Wait}
use Rattle.exercise_conflict.specs.declared.way.Way.{Way}
use Rattle.exercise_conflict.specs.declared.way.Way.TheVariants as ways
use Rattle.exercise_conflict.specs.FieldText.{field_text}
use Rattle.exercise_conflict.specs.RepairText.{enough_text}
use Rattle.siman_print.specs.Line.{Value, Number, Word, Phrase, Ring, Missing, Field, Bare, Keyed, Line, named_line}
use Rattle.siman_print.specs.Spelled.{address_text}
use Rattle.exercise_conflict.specs.Rule.{rule_text}

-- ---- fields

-- an entry number, or a missing value
abbrev pub entry_value : Option ℕ → Value
entry_value None = Missing
entry_value (Some entry) = Number entry

-- KEY=ADDRESS of a station
abbrev pub station_field : PlainRecording → List ℕ → ℕ → Field
station_field r key s = Keyed key (Word (address_text (station_at r s).address))

-- from=ADDRESS, the sender's address in a datagram
abbrev pub from_field : EntityId → Field
from_field id = Keyed (codes "from") (Word (address_text (site_application_of id)))

-- a state, or a missing value
abbrev pub state_value : Option EntityState → Value
state_value None = Missing
state_value (Some state) = Word (state_text state)

-- the name of the difference of two datagrams, or a missing value
abbrev pub difference_value : Option Difference → Value
difference_value None = Missing
difference_value (Some field) = Word (field_text field)

abbrev pub mismatch_text : AnswerMismatch → List ℕ
mismatch_text unfit.Kind = codes "kind"
mismatch_text unfit.Entity = codes "entity"

-- ---- rows

-- rule N TEXT
abbrev pub rule_line : Cause → Line
rule_line cause = named_line (codes "rule") (Bare (codes "cause") (Number (cause_number cause)) ∷ Bare (codes "text") (Phrase (rule_text cause)) ∷ [])

-- from=ADDRESS at=ADDRESS
abbrev pub sender_fields : PlainRecording → EntityId → ℕ → List Field
sender_fields r from s = from_field from ∷ station_field r (codes "at") s ∷ []

-- earlier=ENTRY
abbrev pub earlier_fields : ℕ → List Field
earlier_fields earlier = Keyed (codes "earlier") (Number earlier) ∷ []

-- earlier=ENTRY differs=WORD
abbrev pub differing_fields : ℕ → List ℕ → List Field
differing_fields earlier word = Keyed (codes "earlier") (Number earlier) ∷ Keyed (codes "differs") (Word word) ∷ []

-- later=ENTRY overheard=ENTRY sent=ENTRY
abbrev pub request_fields : Option ℕ → Option ℕ → Option ℕ → List Field
request_fields later overheard sent =
    Keyed (codes "later") (entry_value later) ∷ Keyed (codes "overheard") (entry_value overheard) ∷ Keyed (codes "sent") (entry_value sent) ∷ []

-- entity=ID state=STATE change=ENTRY
abbrev pub state_fields : EntityId → Option EntityState → Option ℕ → List Field
state_fields id state change =
    Keyed (codes "entity") (Word (entity_text id)) ∷ Keyed (codes "state") (state_value state) ∷ Keyed (codes "change") (entry_value change) ∷ []

-- from=ADDRESS sent=ENTRY near=ENTRY differs=FIELD
abbrev pub send_fields : EntityId → Option ℕ → Option ℕ → Option Difference → List Field
send_fields from sent near differs =
    from_field from ∷ Keyed (codes "sent") (entry_value sent) ∷ Keyed (codes "near") (entry_value near) ∷ Keyed (codes "differs") (difference_value differs) ∷ []

-- the keys of the other side, which depend on the cause
abbrev pub clash_fields : PlainRecording → Clash → List Field
clash_fields r (clashes.WrongSender from s) = sender_fields r from s
clash_fields r (clashes.ReusedIdentifier earlier differs) = differing_fields earlier (field_text differs)
clash_fields r (clashes.NoRequest later overheard sent) = request_fields later overheard sent
clash_fields r (clashes.WrongAnswer earlier differs) = differing_fields earlier (mismatch_text differs)
clash_fields r (clashes.ChangedAnswer earlier) = earlier_fields earlier
clash_fields r (clashes.Impossible earlier s n state change) = earlier_fields earlier ++ state_fields (entity_of (station_at r s).address n) state change
clash_fields r (clashes.Stranger from) = from_field from ∷ []
clash_fields r (clashes.NeverSent from sent near differs) = send_fields from sent near differs
clash_fields r (clashes.WrongState s n state change) = state_fields (entity_of (station_at r s).address n) (Some state) change

-- the station that it names is one of the recording
abbrev pub IsOfStations : PlainRecording → Clash → Type 0
IsOfStations r (clashes.WrongSender from s) = s < length r.setting.stations
IsOfStations r (clashes.Impossible earlier s n state change) = s < length r.setting.stations
IsOfStations r (clashes.WrongState s n state change) = s < length r.setting.stations
IsOfStations r clash = ⊤

-- clash ENTRY ..
abbrev pub clash_line : PlainRecording → ℕ → Clash → Line
clash_line r entry clash = named_line (codes "clash") (Bare (codes "entry") (Number entry) ∷ clash_fields r clash)

-- steps=N records=N
abbrev pub number_fields : ℕ → ℕ → List Field
number_fields count records = Keyed (codes "steps") (Number count) ∷ Keyed (codes "records") (Number records) ∷ []

-- missing=ENTRY twice=ENTRY
abbrev pub gap_fields : Option ℕ → Option ℕ → List Field
gap_fields missing twice = Keyed (codes "missing") (entry_value missing) ∷ Keyed (codes "twice") (entry_value twice) ∷ []

-- steps=N records=N missing=ENTRY twice=ENTRY
abbrev pub count_fields : ℕ → ℕ → Option ℕ → Option ℕ → List Field
count_fields count records missing twice = number_fields count records ++ gap_fields missing twice

-- place=N records=N
abbrev pub place_fields : ℕ → ℕ → List Field
place_fields place records = Keyed (codes "place") (Number place) ∷ Keyed (codes "records") (Number records) ∷ []

-- place=ENTRY taken=STEP next=ENTRY
abbrev pub out_of_order_fields : ℕ → Option ℕ → Option ℕ → List Field
out_of_order_fields place taken next =
    Keyed (codes "place") (Number place) ∷ Keyed (codes "taken") (entry_value taken) ∷ Keyed (codes "next") (entry_value next) ∷ []

-- link=N right=ENTRY
abbrev pub link_fields : Option ℕ → Option ℕ → List Field
link_fields link right = Keyed (codes "link") (entry_value link) ∷ Keyed (codes "right") (entry_value right) ∷ []

-- step=STEP, for a datagram that was sent too late or never
abbrev pub step_fields : Clash → Option ℕ → List Field
step_fields (clashes.NeverSent from sent near differs) step = Keyed (codes "step") (entry_value step) ∷ []
step_fields clash step = []

-- clash - .., if no entry was judged
abbrev pub step_line : List Field → Line
step_line fields = named_line (codes "clash") (Bare (codes "entry") Missing ∷ fields)

-- clash ENTRY link=N right=ENTRY
abbrev pub link_line : ℕ → Option ℕ → Option ℕ → Line
link_line place link right = named_line (codes "clash") (Bare (codes "entry") (Number place) ∷ link_fields link right)

-- clash ENTRY .., for the event of a step
abbrev pub event_line : PlainRecording → ℕ → Clash → Option ℕ → Line
event_line r entry clash step = named_line (codes "clash") (Bare (codes "entry") (Number entry) ∷ (clash_fields r clash ++ step_fields clash step))

-- clash ENTRY .. or clash - .., for a step of a certificate
abbrev pub step_clash_line : PlainRecording → StepClash → Line
step_clash_line r (steps.CountDiffers count records missing twice) = step_line (count_fields count records missing twice)
step_clash_line r (steps.NoSuchRecord place records) = step_line (place_fields place records)
step_clash_line r (steps.OutOfOrder place taken next) = step_line (out_of_order_fields place taken next)
step_clash_line r (steps.BadLink place link right) = link_line place link right
step_clash_line r (steps.Event entry clash step) = event_line r entry clash step

-- the station that it names is one of the recording
abbrev pub IsOfStepStations : PlainRecording → StepClash → Type 0
IsOfStepStations r (steps.Event entry clash step) = IsOfStations r clash
IsOfStepStations r clash = ⊤

-- waits ENTRY at=ADDRESS sent=ENTRY on=ADDRESS next=ENTRY
abbrev pub wait_line : PlainRecording → Wait → Line
wait_line r w =
    named_line (codes "waits") (Bare (codes "entry") (Number w.entry) ∷ station_field r (codes "at") w.station ∷ Keyed (codes "sent") (Number w.sent)
    ∷ station_field r (codes "on") w.on ∷ Keyed (codes "next") (Number w.next) ∷ [])

-- final ENTRY
abbrev pub final_line : ℕ → Line
final_line entry = named_line (codes "final") (Bare (codes "entry") (Number entry) ∷ [])

-- also ENTRY at=ADDRESS cause=N NAME
abbrev pub also_line : PlainRecording → ℕ → ℕ → Cause → Line
also_line r entry s cause =
    named_line (codes "also") (Bare (codes "entry") (Number entry) ∷ station_field r (codes "at") s ∷ Keyed (codes "cause") (Number (cause_number cause))
    ∷ Bare (codes "name") (Word (cause_text cause)) ∷ [])

-- missing ENTRY at=ADDRESS after=ENTRY
abbrev pub missing_line : PlainRecording → MissingSend → Line
missing_line r l =
    named_line (codes "missing") (Bare (codes "entry") (Number l.entry) ∷ station_field r (codes "at") l.missing.sender ∷ Keyed (codes "after") (entry_value l.missing.after) ∷ [])

abbrev pub fault_text : Blame → List ℕ
fault_text faults.Certificate = codes "certificate"
fault_text faults.Recording = codes "recording"

-- fault certificate, or fault recording
abbrev pub fault_line : Blame → Line
fault_line fault = named_line (codes "fault") (Bare (codes "of") (Word (fault_text fault)) ∷ [])

-- the addresses of stations
abbrev pub addresses_of : PlainRecording → List ℕ → List SiteApplication
addresses_of r stations = map (λ s. (station_at r s).address) stations

-- cycle ADDRESS ADDRESS ..
abbrev pub cycle_line : PlainRecording → List ℕ → Line
cycle_line r stations = named_line (codes "cycle") (Bare (codes "ring") (Ring (addresses_of r stations)) ∷ [])

-- repair sends=N enough=WORD
abbrev pub repair_line : Repair → Line
repair_line repair = named_line (codes "repair") (Keyed (codes "sends") (Number repair.sends) ∷ Keyed (codes "enough") (Word (enough_text repair.enough)) ∷ [])

-- final ENTRY, right after a contradiction that no further entry can resolve
abbrev pub final_lines : ℕ → Bool → List Line
final_lines entry true = final_line entry ∷ []
final_lines entry false = []

-- the wait of a blocked station, or the contradiction of its entry
abbrev pub way_lines : PlainRecording → Way → List Line
way_lines r (ways.Waits w) = wait_line r w ∷ []
way_lines r (ways.Clash entry clash final) = clash_line r entry clash ∷ final_lines entry final

-- the stations that it names are some of the recording
abbrev pub IsOfWayStations : PlainRecording → Way → Type 0
IsOfWayStations r (ways.Waits w) = (w.station < length r.setting.stations) × (w.on < length r.setting.stations)
IsOfWayStations r (ways.Clash entry clash final) = IsOfStations r clash
