-- The rows of a plan: what each move did (profile).
use Rattle.std.specs.Prelude.{ℕ, List, [], ◌∷◌, ◌++◌, codes, slice_get, Option, Some, None, if◌then◌else◌}
use Rattle.std.specs.Option.{option_and_then}
use Rattle.dis_records.specs.Texts.{entity_text, kind_text, state_text}
use Rattle.dis_records.specs.declared.address.SiteApplication.{SiteApplication}
use Rattle.dis_records.specs.declared.entity.EntityId.{EntityId}
use Rattle.siman_pdus.specs.declared.pdu.Pdu.{Pdu}
use Rattle.siman_pdus.specs.Reading.{reading}
use Rattle.siman_pdus.specs.Role.{request_id_of}
use Rattle.siman_pdus.specs.Spelling.{body_kind}
use Rattle.exercise_review.specs.Word.{word_of, word_text}
use Rattle.siman_print.specs.Fields.{option_value}
use Rattle.siman_print.specs.Line.{Value, Number, Word, Field, Bare, Keyed, Line, named_line}
use Rattle.siman_print.specs.Spelled.{address_text}
use Rattle.siman_print.specs.Values.{number_value}
use Rattle.siman_plans.specs.declared.deed.Deed.{Deed}
use Rattle.siman_plans.specs.declared.deed.Deed.TheVariants as deeds
use Rattle.siman_plans.specs.declared.deed.PlannedLine.{PlannedLine}
use Rattle.siman_plans.specs.Plain.{order_name}
use Rattle.siman_plans.specs.SourceWords.{is_label}

-- WHAT THE ROWS ARE MADE OF: the addresses of the stations, by their indices; the sent datagrams, by their numbers; and
-- the labels, in the order of their lines
pub record Background : Type 0 where
  pub stations : List SiteApplication
  pub sends : List (List ℕ)
  pub labels : List (List ℕ)

-- the PDU of a sent datagram
abbrev pub pdu_at : Background → ℕ → Option Pdu
pdu_at b k = option_and_then reading (slice_get b.sends k)

-- Values.

abbrev pub station_value : Background → ℕ → Value
station_value b s = option_value (λ a. Word (address_text a)) (slice_get b.stations s)

-- the identifier of an entity of a station
abbrev pub entity_value : Background → (station entity : ℕ) → Value
entity_value b s e =
    option_value (λ a. let id : EntityId = record { site = a.site; application = a.application; entity = e } in Word (entity_text id)) (slice_get b.stations s)

abbrev pub kind_value : Option Pdu → Value
kind_value pdu = option_value (λ p. Word (kind_text (body_kind p.body))) pdu

abbrev pub origin_value : Option Pdu → Value
origin_value pdu = option_value (λ p. Word (entity_text p.origin)) pdu

abbrev pub target_value : Option Pdu → Value
target_value pdu = option_value (λ p. Word (entity_text p.target)) pdu

abbrev pub request_value : Option Pdu → Value
request_value pdu = number_value (option_and_then (λ p. request_id_of p.body) pdu)

-- the name of the line of an order
abbrev pub order_value : Option Pdu → Value
order_value pdu = option_value (λ p. Word (order_name p.body)) pdu

-- what an answer says, in the word of a review
abbrev pub response_value : Option Pdu → Value
response_value pdu = option_value (λ w. Word (word_text w)) (option_and_then (λ p. word_of p.body) pdu)

-- Fields.

abbrev pub label_fields : Option (List ℕ) → List Field
label_fields None = []
label_fields (Some label) = if is_label label then Keyed (codes "label") (Word label) ∷ [] else []

-- the label of an index
abbrev pub labelled : Background → Option ℕ → List Field
labelled b label = label_fields (option_and_then (λ i. slice_get b.labels i) label)

-- the number of the line, and what it did
abbrev pub did : ℕ → Value → List Field
did line name = Bare (codes "source") (Number line) ∷ Bare (codes "did") name ∷ []

-- from=S:A to=ID request=N sends=K
abbrev pub order_fields : Background → (station sends : ℕ) → Option Pdu → List Field
order_fields b station sends pdu =
    Keyed (codes "from") (station_value b station) ∷ Keyed (codes "to") (target_value pdu) ∷ Keyed (codes "request") (request_value pdu)
    ∷ Keyed (codes "sends") (Number sends) ∷ []

-- at=S:A repeats=N sends=K
abbrev pub tick_fields : Background → (station : ℕ) → Option ℕ → List Field
tick_fields b station sends =
    Keyed (codes "at") (station_value b station) ∷ Keyed (codes "repeats") (request_value (option_and_then (pdu_at b) sends))
    ∷ Keyed (codes "sends") (number_value sends) ∷ []

-- entity=ID state=STATE
abbrev pub told_fields : Background → (station entity : ℕ) → List ℕ → List Field
told_fields b station entity state = Keyed (codes "entity") (entity_value b station entity) ∷ Keyed (codes "state") (Word state) ∷ []

-- kind=NAME from=ID to=ID
abbrev pub pdu_fields : Option Pdu → List Field
pdu_fields pdu =
    Keyed (codes "kind") (kind_value pdu) ∷ Keyed (codes "from") (origin_value pdu) ∷ Keyed (codes "to") (target_value pdu) ∷ []

-- request=N answers=K response=WORD
abbrev pub answer_fields : Background → Option Pdu → Option ℕ → List Field
answer_fields b pdu answers =
    Keyed (codes "request") (request_value pdu) ∷ Keyed (codes "answers") (number_value answers)
    ∷ Keyed (codes "response") (response_value (option_and_then (pdu_at b) answers)) ∷ []

-- at=S:A brings=K, and what is brought, and what the station answers
abbrev pub delivery_fields : Background → (station brings : ℕ) → Option ℕ → List Field
delivery_fields b station brings answers =
    Keyed (codes "at") (station_value b station) ∷ Keyed (codes "brings") (Number brings) ∷ (pdu_fields (pdu_at b brings) ++ answer_fields b (pdu_at b brings) answers)

-- Rows.

abbrev pub move_row : (line : ℕ) → Value → List Field → Line
move_row line name fields = named_line (codes "move") (did line name ++ fields)

abbrev pub deed_rows : Background → (line : ℕ) → Deed → List Line
deed_rows b line (deeds.Set is_back) = []
deed_rows b line (deeds.Ordered station sends label) =
    move_row line (order_value (pdu_at b sends)) (order_fields b station sends (pdu_at b sends) ++ labelled b label) ∷ []
deed_rows b line (deeds.Ticked station sends label) = move_row line (Word (codes "tick")) (tick_fields b station sends ++ labelled b label) ∷ []
deed_rows b line (deeds.Told station entity state) = move_row line (Word (codes "tell")) (told_fields b station entity (state_text state)) ∷ []
deed_rows b line (deeds.Brought station brings answers) = move_row line (Word (codes "deliver")) (delivery_fields b station brings answers) ∷ []
deed_rows b line (deeds.Lost datagram) = []

-- THE ROW OF A LINE of a plan, if it made a move
abbrev pub move_rows : Background → PlannedLine → List Line
move_rows b p = deed_rows b p.line p.did
