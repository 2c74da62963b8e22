-- An entry that is none of a station passes no test of what the station sends or receives.
use Rattle.std.proofs.Common.{◌≡◌, ◌≤◌, ℕ, length, false, None, ap, arith}
use Rattle.std.specs.Prelude.{is_some, option_and_then}
use Rattle.std.specs.Option.{option_map_or}
use Rattle.std.proofs.lemmas.Option.{slice_get_within}
use Rattle.siman_pdus.specs.declared.pdu.Pdu.{Pdu}
use Rattle.exercise_model.specs.Recording.{PlainRecording}
use Rattle.exercise_model.specs.History.{station_at}
use Rattle.exercise_model.specs.Exchange.{request_brought}
use Rattle.exercise_model.specs.Cause.{is_other_order}
use Rattle.exercise_model.specs.Place.{own_event, brings_request}
use Rattle.exercise_findings.specs.Sent.{meant_by_send}
use Rattle.exercise_conflict.specs.Earlier.{IsSentAt, sent_pdu, sends_other_at, is_opposite_to, sends_opposite_at}
use Rattle.exercise_conflict.specs.Clash.{meant_by_get, got_pdu, is_overheard, overhears_at, is_near, sends_near_at}

pub unowned_other : (r : PlainRecording) (s : ℕ) (p : Pdu) (i : ℕ) → own_event r s i ≡ None → sends_other_at r s p i ≡ false
unfolding sends_other_at sent_pdu
unowned_other r s p i none = ap (λ o. option_map_or (is_other_order p) (option_and_then (meant_by_send r.setting.exercise) o) false) none

pub unowned_opposite : (r : PlainRecording) (s : ℕ) (p : Pdu) (i : ℕ) → own_event r s i ≡ None → sends_opposite_at r s p i ≡ false
unfolding sends_opposite_at sent_pdu
unowned_opposite r s p i none = ap (λ o. option_map_or (is_opposite_to p) (option_and_then (meant_by_send r.setting.exercise) o) false) none

pub unowned_near : (r : PlainRecording) (s : ℕ) (p : Pdu) (i : ℕ) → own_event r s i ≡ None → sends_near_at r s p i ≡ false
unfolding sends_near_at sent_pdu
unowned_near r s p i none = ap (λ o. option_map_or (is_near p) (option_and_then (meant_by_send r.setting.exercise) o) false) none

pub unowned_overheard : (r : PlainRecording) (s : ℕ) (p : Pdu) (i : ℕ) → own_event r s i ≡ None → overhears_at r s p i ≡ false
unfolding overhears_at got_pdu
unowned_overheard r s p i none =
    ap (λ o. option_map_or (is_overheard (station_at r s).address p) (option_and_then (meant_by_get r.setting.exercise) o) false) none

pub unowned_request : (r : PlainRecording) (s : ℕ) (p : Pdu) (i : ℕ) → own_event r s i ≡ None → brings_request r s p i ≡ false
unowned_request r s p i none = ap (λ o. is_some (option_and_then (request_brought r.setting.exercise (station_at r s).address p) o)) none

-- what a station sends at an entry stands there
pub sent_within : (r : PlainRecording) (j s : ℕ) (p : Pdu) → IsSentAt r j s p → j ≤ length r.entries
sent_within r j s p sent = omega (arith, slice_get_within r.entries j _ sent.sent)
