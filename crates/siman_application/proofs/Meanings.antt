-- What a text means that is read as a request for the station, or as its answer.
use Rattle.std.proofs.Common.{◌≡◌, ℕ, List, Some, Option, refl, ap, ◌∙◌}
use Rattle.std.specs.Prelude.{Bool, true, false, ◌==◌, ◌&&◌, not, option_and_then, None, if◌then◌else◌}
use Rattle.siman_pdus.specs.declared.pdu.Body.{Body}
use Rattle.siman_pdus.specs.declared.pdu.Body.TheVariants.{CreateEntity, RemoveEntity, StartResume, StopFreeze, Acknowledge, ActionRequest, ActionResponse, DataQuery, SetData, DataPdu, EventReport, Comment}
use Rattle.siman_pdus.specs.declared.pdu.Pdu.{Pdu}
use Rattle.siman_pdus.specs.declared.roles.Role.{Role}
use Rattle.siman_pdus.specs.declared.roles.Role.TheVariants as roles
use Rattle.siman_pdus.specs.Reading.{reading}
use Rattle.siman_pdus.specs.Role.{role_of, is_request_role, is_request_body}
use Rattle.siman_pdus.specs.Spelling.{pdu_text}
use Rattle.exercise_model.specs.Meaning.{is_outside, meant, meaning}
use Rattle.siman_application.specs.AppProfile.{AppProfile}
use Rattle.siman_application.specs.Distinct.{is_for}
use Rattle.siman_application.specs.Answer.{Knowledge, chosen, created, answer_by, answer}
use Rattle.siman_application.proofs.Answered.{for_parts, is_answer, equal_self, outside}

pub read_means : (x : ℕ) (b : List ℕ) (p : Pdu) → reading b ≡ Some p → (p.exercise == x) ≡ true → is_outside (role_of p.body) ≡ false
    → meaning x b ≡ Some p
unfolding meaning
read_means x b p e exercise inside =
    ap (option_and_then (meant x)) e
    ∙ ap (λ (v : Bool). if v && not (is_outside (role_of p.body)) then Some p else None) exercise
    ∙ ap (λ (v : Bool). if not v then Some p else None) inside

request_role : (r : Role) → is_request_role r ≡ true → is_outside r ≡ false
request_role roles.Request e = refl
request_role roles.Answer e = absurd cc
request_role roles.Notice e = absurd cc
request_role roles.Outside e = absurd cc

-- what is read as a request of the exercise means it
pub request_means : (x : ℕ) (b : List ℕ) (q : Pdu) → reading b ≡ Some q → (q.exercise == x) ≡ true → is_request_body q.body ≡ true
    → meaning x b ≡ Some q
request_means x b q e exercise request = read_means x b q e exercise (request_role (role_of q.body) request)

-- what is read as a PDU for the station means it
pub taken_means : (a : AppProfile) (b : List ℕ) (q : Pdu) → reading b ≡ Some q → is_for a q ≡ true → meaning a.exercise b ≡ Some q
taken_means a b q e own = let parts = for_parts a q own in request_means a.exercise b q e parts.exercise parts.request

created_inside : (a : AppProfile) (q : Pdu) (stamp request : ℕ) (o : Option ℕ) → is_outside (role_of (created a q stamp request o).body) ≡ false
created_inside a q stamp request None = refl
created_inside a q stamp request (Some m) = refl

answer_inside : (a : AppProfile) (k : Knowledge) (q : Pdu) (stamp : ℕ) (body : Body) → is_request_body body ≡ true
    → is_outside (role_of (answer_by a k q stamp body).body) ≡ false
answer_inside a k q stamp (CreateEntity request) e = created_inside a q stamp request (chosen k.states q.target.entity)
answer_inside a k q stamp (RemoveEntity request) e = refl
answer_inside a k q stamp (StartResume real sim request) e = refl
answer_inside a k q stamp (StopFreeze real reason behaviour request) e = refl
answer_inside a k q stamp (Acknowledge flag response request) e = absurd (outside flag response request e)
answer_inside a k q stamp (ActionRequest request action datums) e = refl
answer_inside a k q stamp (ActionResponse request status datums) e = absurd cc
answer_inside a k q stamp (DataQuery request interval ids) e = refl
answer_inside a k q stamp (SetData request datums) e = refl
answer_inside a k q stamp (DataPdu request datums) e = absurd cc
answer_inside a k q stamp (EventReport event datums) e = absurd cc
answer_inside a k q stamp (Comment datums) e = absurd cc

-- the text of an answer means it
pub answer_means : (a : AppProfile) (k : Knowledge) (q : Pdu) (stamp : ℕ) → is_for a q ≡ true
    → reading (pdu_text (answer a k q stamp)) ≡ Some (answer a k q stamp)
    → meaning a.exercise (pdu_text (answer a k q stamp)) ≡ Some (answer a k q stamp)
answer_means a k q stamp own e =
    read_means a.exercise (pdu_text (answer a k q stamp)) (answer a k q stamp) e
    (ap (λ (n : ℕ). n == a.exercise) (is_answer a k q stamp own).exercise ∙ equal_self a.exercise)
    (answer_inside a k q stamp q.body (for_parts a q own).request)
