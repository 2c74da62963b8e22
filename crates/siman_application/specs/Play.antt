-- What an application knows after requests, and its reply to the next PDU: by the distinct requests alone, THE LAST
-- ONE FIRST, without stored answers and tables (profile).
use Rattle.std.specs.Prelude.{ℕ, List, [], ◌∷◌, Bool, true, false, Option, Some, None, if◌then◌else◌}
use Rattle.dis_records.specs.declared.datum.FixedDatum.{FixedDatum}
use Rattle.dis_records.specs.declared.entity_state.EntityState.{EntityState}
use Rattle.dis_records.specs.declared.kind.Kind.{Kind}
use Rattle.dis_records.specs.declared.kind.Kind.TheVariants as kinds
use Rattle.dis_records.specs.Datum.{Datum}
use Rattle.siman_pdus.specs.declared.pdu.Pdu.{Pdu}
use Rattle.siman_pdus.specs.Same.{is_same_order}
use Rattle.siman_pdus.specs.Spelling.{body_kind, pdu_text}
use Rattle.exercise_model.specs.History.{History, Send, Get}
use Rattle.exercise_model.specs.State.{state_after}
use Rattle.siman_application.specs.AppProfile.{AppProfile}
use Rattle.siman_application.specs.Distinct.{Placed, is_for, first_under, distinct}
use Rattle.siman_application.specs.Records.{fixed_id, variable_id, last_under, stored}
use Rattle.siman_application.specs.Answer.{Knowledge, brought, answer}

-- Create Entity, Remove Entity, Start/Resume and Stop/Freeze are for entities
abbrev pub is_for_entities : Kind → Bool
is_for_entities kinds.CreateEntity = true
is_for_entities kinds.RemoveEntity = true
is_for_entities kinds.StartResume = true
is_for_entities kinds.StopFreeze = true
is_for_entities kinds.Acknowledge = false
is_for_entities kinds.ActionRequest = false
is_for_entities kinds.ActionResponse = false
is_for_entities kinds.DataQuery = false
is_for_entities kinds.SetData = false
is_for_entities kinds.DataPdu = false
is_for_entities kinds.EventReport = false
is_for_entities kinds.Comment = false

-- the record under an identifier after these distinct requests: that of the last Set Data that stores one, else the
-- first one
abbrev pub fixed_after : AppProfile → List Pdu → ℕ → Option FixedDatum
fixed_after a [] id = last_under fixed_id id a.datums.fixed
fixed_after a (d ∷ ds) id = stored (last_under fixed_id id (brought d.body).fixed) (fixed_after a ds id)

abbrev pub variable_after : AppProfile → List Pdu → ℕ → Option Datum
variable_after a [] id = last_under variable_id id a.datums.variable
variable_after a (d ∷ ds) id = stored (last_under variable_id id (brought d.body).variable) (variable_after a ds id)

-- what is known after these distinct requests, whose play is this log
abbrev pub known_by : AppProfile → History → List Pdu → Knowledge
known_by a log ds = record {
  states = λ e. state_after a.exercise a.station log e;
  fixed = λ id. fixed_after a ds id;
  variable = λ id. variable_after a ds id;
}

-- the play continued by a request that is received and the answer that is sent, if it is for entities; no rule
-- depends on the timestamp
abbrev pub play_on : Pdu → Pdu → History → History
play_on d p log = if is_for_entities (body_kind d.body) then Send 0 (pdu_text p) ∷ Get 0 (pdu_text d) ∷ log else log

-- THE PLAY of an application: each distinct request for entities is received and answered
unfoldable pub play : AppProfile → List Pdu → History
play a [] = []
play a (d ∷ ds) = let log = play a ds in play_on d (answer a (known_by a log ds) d 0) log

-- what is known after these distinct requests
abbrev pub known : AppProfile → List Pdu → Knowledge
known a ds = known_by a (play a ds) ds

-- THE STATE of an entity after these distinct requests
abbrev pub state_over : AppProfile → List Pdu → ℕ → EntityState
state_over a ds e = state_after a.exercise a.station (play a ds) e

-- the answer to a request that has the first request under its key before it: the same order gets the answer to
-- that first request, another order none
abbrev pub answer_under : AppProfile → List Pdu → Pdu → ℕ → Option Placed → Option Pdu
answer_under a ds q stamp None = Some (answer a (known a ds) q stamp)
answer_under a ds q stamp (Some first) =
    if is_same_order q first.request then Some (answer a (known a first.before) first.request stamp) else None

-- the reply to a PDU after these distinct requests: none to one that is not for the station
abbrev pub reply_after : AppProfile → List Pdu → Pdu → ℕ → Option Pdu
reply_after a ds q stamp = if is_for a q then answer_under a ds q stamp (first_under q ds) else None

-- THE REPLY to a PDU q, with this timestamp, after the received PDUs qs
abbrev pub reply : AppProfile → List Pdu → Pdu → ℕ → Option Pdu
reply a qs q stamp = reply_after a (distinct a qs) q stamp
