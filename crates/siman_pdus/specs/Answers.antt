-- Which PDU answers which request (profile, over IEEE 1278.1-2012, 5.6).
use Rattle.std.specs.Prelude.{ℕ, Bool, true, false, ◌&&◌, ◌==◌, Option, Some, None}
use Rattle.dis_records.specs.declared.entity.EntityId.{EntityId}
use Rattle.dis_records.specs.declared.kind.Kind.{Kind}
use Rattle.dis_records.specs.declared.kind.Kind.TheVariants as kinds
use Rattle.dis_records.specs.Entity.{site_application_of, is_addressed, are_fitting}
use Rattle.siman_pdus.specs.declared.pdu.Body.{Body}
use Rattle.siman_pdus.specs.declared.pdu.Body.TheVariants.{Acknowledge, ActionResponse, DataPdu}
use Rattle.siman_pdus.specs.declared.pdu.Pdu.{Pdu}
use Rattle.siman_pdus.specs.Role.{request_id_of}
use Rattle.siman_pdus.specs.Spelling.{body_kind}

-- An Acknowledge with flag 1 answers a Create Entity, with 2 a Remove Entity, with 3 a Start/Resume, with 4 a Stop/Freeze.
abbrev pub acknowledges : ℕ → Kind → Bool
acknowledges flag kinds.CreateEntity = flag == 1
acknowledges flag kinds.RemoveEntity = flag == 2
acknowledges flag kinds.StartResume = flag == 3
acknowledges flag kinds.StopFreeze = flag == 4
acknowledges flag kind = false

-- An Action Response answers an Action Request.
abbrev pub is_action_request : Kind → Bool
is_action_request kinds.ActionRequest = true
is_action_request kind = false

-- A Data answers a Data Query or a Set Data.
abbrev pub asks_for_data : Kind → Bool
asks_for_data kinds.DataQuery = true
asks_for_data kinds.SetData = true
asks_for_data kind = false

-- the body answers a request of this kind
abbrev pub matches_kind : Body → Kind → Bool
matches_kind (Acknowledge flag response request) kind = acknowledges flag kind
matches_kind (ActionResponse request status datums) kind = is_action_request kind
matches_kind (DataPdu request datums) kind = asks_for_data kind
matches_kind body kind = false

-- two request identifiers that exist and are equal
abbrev pub same_id : Option ℕ → Option ℕ → Bool
same_id None other = false
same_id (Some id) None = false
same_id (Some id) (Some other) = id == other

-- two identifiers with equal sites and applications
abbrev pub same_pair : EntityId → EntityId → Bool
same_pair i j = (i.site == j.site) && (i.application == j.application)

-- p answers the request q: the kinds match; the request identifiers are equal; p is for the site and application that
-- q is from; q is for the site and application that p is from; and the entity numbers fit. The originating entity
-- number of q is not compared.
abbrev pub is_answer_to : Pdu → Pdu → Bool
is_answer_to p q =
    matches_kind p.body (body_kind q.body)
    && (same_id (request_id_of p.body) (request_id_of q.body)
    && (same_pair p.target q.origin
    && (is_addressed q.target (site_application_of p.origin)
    && are_fitting (body_kind q.body) q.target.entity p.origin.entity)))
