-- A datagram has a reason exactly where it means nothing.
use Rattle.std.proofs.Common.{◌≡◌, ℕ, List, Bool, true, false, Option, Some, None, refl, ap, ◌∙◌}
use Rattle.std.specs.Prelude.{◌==◌, ◌&&◌, not, is_some, is_none, option_and_then, if◌then◌else◌}
use Rattle.siman_pdus.specs.declared.fault.ViewFault.{ViewFault}
use Rattle.siman_pdus.specs.declared.pdu.Body.{Body}
use Rattle.siman_pdus.specs.declared.pdu.Body.TheVariants.{CreateEntity, RemoveEntity, StartResume, StopFreeze, Acknowledge, ActionRequest, ActionResponse, DataQuery, SetData, DataPdu, EventReport, Comment}
use Rattle.siman_pdus.specs.declared.pdu.Pdu.{Pdu}
use Rattle.dis_records.specs.Header.{header_at}
use Rattle.siman_pdus.specs.declared.roles.Role.TheVariants.{Answer, Outside}
use Rattle.siman_pdus.specs.Reading.{pdu_from, pdu_refusal, unless_refused, view_refusal, reading}
use Rattle.siman_pdus.specs.Role.{is_acknowledge_flag, role_of}
use Rattle.exercise_model.specs.Meaning.{meant, meaning, is_outside}
use Rattle.siman_print.specs.declared.reason.OtherReason.TheVariants.{Refused, Exercise, Flag}
use Rattle.siman_print.specs.Reason.{idle_flag, why_unmeant, why_read, why_other}

-- what is read is not refused
unrefused : (o : Option ViewFault) (p q : Pdu) → unless_refused (pdu_refusal o) p ≡ Some q → o ≡ None
unrefused None p q read = refl
unrefused (Some fault) p q read = absurd (cc read)

pub refused_is : (x : ℕ) (b : List ℕ) (fault : ViewFault) → view_refusal b ≡ Some fault → why_other x b ≡ Some (Refused fault)
unfolding why_other
refused_is x b fault refused = ap (λ o. why_read x o (reading b)) refused

pub read_is : (x : ℕ) (b : List ℕ) (p : Pdu) → reading b ≡ Some p → why_other x b ≡ why_unmeant x p
unfolding why_other
read_is x b p read =
    ap (λ o. why_read x o (reading b)) (unrefused (view_refusal b) _ p read)
    ∙ ap (λ o. option_and_then (why_unmeant x) o) read

-- ---- the law

flag_is : (flag : ℕ) (answers : Bool) → is_none (if answers then None else Some (Flag flag)) ≡ not (is_outside (if answers then Answer else Outside))
flag_is flag true = refl
flag_is flag false = refl

idle_is : (body : Body) → is_none (idle_flag body) ≡ not (is_outside (role_of body))
idle_is (CreateEntity request) = refl
idle_is (RemoveEntity request) = refl
idle_is (StartResume real sim request) = refl
idle_is (StopFreeze real reason behaviour request) = refl
idle_is (Acknowledge flag response request) = flag_is flag (is_acknowledge_flag flag)
idle_is (ActionRequest request action datums) = refl
idle_is (ActionResponse request status datums) = refl
idle_is (DataQuery request interval ids) = refl
idle_is (SetData request datums) = refl
idle_is (DataPdu request datums) = refl
idle_is (EventReport event datums) = refl
idle_is (Comment datums) = refl

kept : (p : Pdu) (n : Bool) → n ≡ is_some (if n then Some p else None)
kept p true = refl
kept p false = refl

unmeant_is : (x : ℕ) (p : Pdu) → is_none (why_unmeant x p) ≡ is_some (meant x p)
unmeant_is x p = by (p.exercise == x)
  where
    by : (same : Bool) → is_none (if same then idle_flag p.body else Some (Exercise p.exercise)) ≡ is_some (if same && not (is_outside (role_of p.body)) then Some p else None)
    by true = idle_is p.body ∙ kept p (not (is_outside (role_of p.body)))
    by false = refl

pub reason_there : (x : ℕ) (b : List ℕ) → is_none (why_other x b) ≡ is_some (meaning x b)
unfolding why_other meaning
reason_there x b = by (view_refusal b) (pdu_from (header_at b) b)
  where
    by : (o : Option ViewFault) (p : Pdu) → is_none (why_read x o (unless_refused (pdu_refusal o) p)) ≡ is_some (option_and_then (meant x) (unless_refused (pdu_refusal o) p))
    by None p = unmeant_is x p
    by (Some fault) p = refl
