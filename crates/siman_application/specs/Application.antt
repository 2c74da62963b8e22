-- What contracts see of an application: its configuration, and the distinct requests, in order of arrival.
use Rattle.std.specs.Prelude.{◌≡◌, List, Bool, ◌&&◌, is_none, Result, Ok, Err}
use Rattle.siman_pdus.specs.declared.pdu.Pdu.{Pdu}
use Rattle.siman_application.specs.declared.fault.AppFault.{AppFault}
use Rattle.siman_application.specs.declared.kept.AnsweredRequest.{AnsweredRequest}
use Rattle.siman_application.specs.AppProfile.{AppProfile}
use Rattle.siman_application.specs.Distinct.{is_for, first_under, with_request}
use Rattle.siman_application.specs.KeptRequests.{requests}

pub record ApplicationData : Type 0 where
  pub outfit : AppProfile
  pub kept : List AnsweredRequest

-- the distinct requests that were received, the last first
abbrev pub came : ApplicationData → List Pdu
came s = requests s.kept

-- the PDU is for the station and the first under its key
abbrev pub is_new : ApplicationData → Pdu → Bool
is_new s q = is_for s.outfit q && is_none (first_under q (came s))

-- the effect of a call that took q: the outfit is unchanged, and q joins the distinct requests if it is new
pub record Takes (old : ApplicationData) (q : Pdu) (new : ApplicationData) : Type 0 where
  pub outfit : new.outfit ≡ old.outfit
  pub came_is : came new ≡ with_request old.outfit (came old) q

-- the effect of a call that was to take q; an error leaves all unchanged
abbrev pub Leaves : {A : Type 0} → ApplicationData → Pdu → Result A AppFault → ApplicationData → Type 0
Leaves old q (Ok r) new = Takes old q new
Leaves old q (Err fault) new = new ≡ old
