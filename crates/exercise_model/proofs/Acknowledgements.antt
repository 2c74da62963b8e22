-- What an Acknowledge says gives its key and its response flag.
use Rattle.std.proofs.Common.{◌≡◌, refl}
use Rattle.std.specs.Prelude.{option_map}
use Rattle.siman_pdus.specs.declared.message.Acknowledgement.{Acknowledgement}
use Rattle.siman_pdus.specs.declared.pdu.Body.{Body}
use Rattle.siman_pdus.specs.declared.pdu.Body.TheVariants.{CreateEntity, RemoveEntity, StartResume, StopFreeze, Acknowledge, ActionRequest, ActionResponse, DataQuery, SetData, DataPdu, EventReport, Comment}
use Rattle.siman_pdus.specs.declared.pdu.Pdu.{Pdu}
use Rattle.siman_pdus.specs.Message.{acknowledgement_of}
use Rattle.exercise_model.specs.declared.acknowledge.AcknowledgeKey.{AcknowledgeKey}
use Rattle.exercise_model.specs.Change.{key_in, response_of}

-- the key that it gives a PDU
abbrev pub key_by : Pdu → Acknowledgement → AcknowledgeKey
key_by p said =
    record { flag = said.flag; request = said.request; site = p.target.site; application = p.target.application; entity = p.origin.entity }

pub key_is : (p : Pdu) (b : Body) → key_in p b ≡ option_map (key_by p) (acknowledgement_of b)
key_is p (CreateEntity request) = refl
key_is p (RemoveEntity request) = refl
key_is p (StartResume real sim request) = refl
key_is p (StopFreeze real reason behaviour request) = refl
key_is p (Acknowledge flag response request) = refl
key_is p (ActionRequest request action datums) = refl
key_is p (ActionResponse request status datums) = refl
key_is p (DataQuery request interval ids) = refl
key_is p (SetData request datums) = refl
key_is p (DataPdu request datums) = refl
key_is p (EventReport event datums) = refl
key_is p (Comment datums) = refl

pub response_is : (b : Body) → response_of b ≡ option_map (λ said. said.response) (acknowledgement_of b)
response_is (CreateEntity request) = refl
response_is (RemoveEntity request) = refl
response_is (StartResume real sim request) = refl
response_is (StopFreeze real reason behaviour request) = refl
response_is (Acknowledge flag response request) = refl
response_is (ActionRequest request action datums) = refl
response_is (ActionResponse request status datums) = refl
response_is (DataQuery request interval ids) = refl
response_is (SetData request datums) = refl
response_is (DataPdu request datums) = refl
response_is (EventReport event datums) = refl
response_is (Comment datums) = refl
