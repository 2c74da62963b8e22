-- Whose head an entry is.
use Rattle.std.proofs.Common.{◌≡◌, ℕ, length, Bool, true, false, Option, Some, None, refl, ap, ◌∙◌}
use Rattle.std.specs.Prelude.{◌&&◌, not, option_and_then, if◌then◌else◌}
use Rattle.siman_pdus.specs.declared.pdu.Pdu.{Pdu}
use Rattle.siman_pdus.specs.Answers.{same_id}
use Rattle.siman_pdus.specs.Role.{is_request_body}
use Rattle.exercise_model.specs.Recording.{PlainRecording}
use Rattle.exercise_model.specs.Place.{first_below}
use Rattle.exercise_model.specs.Setting.{is_open, is_recorded}
use Rattle.exercise_review.specs.Order.{is_outside, is_for_station, gets_anywhere, received_head}

-- what is received in a recording that is not open makes no order
pub nobody_outside : (r : PlainRecording) (i : ℕ) (m : Option Pdu) → is_open r.setting.form ≡ false → same_id (option_and_then (received_head r) m) (Some i) ≡ false
unfolding is_outside
nobody_outside r i None closed = refl
nobody_outside r i (Some p) closed =
    ap
    (λ b. same_id (if is_request_body p.body && ((b && not (is_recorded r.setting p)) && is_for_station r p) then first_below (gets_anywhere r p) (length r.entries) else None) (Some i))
    closed
    ∙ no_request (is_request_body p.body)
  where
    no_request : (b : Bool) → same_id (if b && false then first_below (gets_anywhere r p) (length r.entries) else None) (Some i) ≡ false
    no_request true = refl
    no_request false = refl
