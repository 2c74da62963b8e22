-- What is read of a body says its role, and which requests it answers.
use Rattle.std.proofs.Common.{◌≡◌, refl}
use Rattle.dis_records.specs.declared.kind.Kind.{Kind}
use Rattle.siman_pdus.specs.declared.pdu.Body.{Body}
use Rattle.siman_pdus.specs.declared.pdu.Body.TheVariants.{CreateEntity, RemoveEntity, StartResume, StopFreeze, Acknowledge, ActionRequest, ActionResponse, DataQuery, SetData, DataPdu, EventReport, Comment}
use Rattle.siman_pdus.specs.Answers.{matches_kind}
use Rattle.siman_pdus.specs.Message.{acknowledgement_of, role_by, matches_by}
use Rattle.siman_pdus.specs.Role.{role_of}
use Rattle.siman_pdus.specs.Spelling.{body_kind}

pub role_is : (b : Body) → role_of b ≡ role_by (body_kind b) (acknowledgement_of b)
role_is (CreateEntity request) = refl
role_is (RemoveEntity request) = refl
role_is (StartResume real sim request) = refl
role_is (StopFreeze real reason behaviour request) = refl
role_is (Acknowledge flag response request) = refl
role_is (ActionRequest request action datums) = refl
role_is (ActionResponse request status datums) = refl
role_is (DataQuery request interval ids) = refl
role_is (SetData request datums) = refl
role_is (DataPdu request datums) = refl
role_is (EventReport event datums) = refl
role_is (Comment datums) = refl

pub matches_is : (b : Body) (kind : Kind) → matches_kind b kind ≡ matches_by (body_kind b) (acknowledgement_of b) kind
matches_is (CreateEntity request) kind = refl
matches_is (RemoveEntity request) kind = refl
matches_is (StartResume real sim request) kind = refl
matches_is (StopFreeze real reason behaviour request) kind = refl
matches_is (Acknowledge flag response request) kind = refl
matches_is (ActionRequest request action datums) kind = refl
matches_is (ActionResponse request status datums) kind = refl
matches_is (DataQuery request interval ids) kind = refl
matches_is (SetData request datums) kind = refl
matches_is (DataPdu request datums) kind = refl
matches_is (EventReport event datums) kind = refl
matches_is (Comment datums) kind = refl
