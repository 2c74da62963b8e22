-- What an entry changes, by what was found of it.
use Rattle.std.proofs.Common.{◌≡◌, ℕ, cond, Some, None, true, false, refl, sym, ap}
use Rattle.std.specs.Prelude.{is_some, slice_get, nat_eq, option_and_then, if◌then◌else◌}
use Rattle.std.proofs.lemmas.Bool.{eqb-true}
use Rattle.exercise_model.specs.Recording.{PlainRecording}
use Rattle.exercise_model.specs.History.{event_of, station_of, station_at}
use Rattle.exercise_model.specs.State.{change_made}
use Rattle.exercise_model.specs.Place.{event_at, own_event, log_before}
use Rattle.exercise_model.specs.Account.{changed_by, change_at}

pub own_change : (r : PlainRecording) (s j : ℕ)
    → option_and_then (change_made r.setting.exercise (station_at r s) (log_before r s j)) (own_event r s j)
    ≡ (if is_some (own_event r s j) then change_at r j else None)
unfolding own_event change_at
own_change r s j =
    elim (slice_get r.entries j) as (λ o. option_and_then (change_made r.setting.exercise (station_at r s) (log_before r s j))
    (option_and_then (λ e. event_at s (event_of e)) o)
    ≡ (if is_some (option_and_then (λ e. event_at s (event_of e)) o) then option_and_then (λ e. changed_by r j (event_of e)) o else None)) [
      | None ↦ refl
      | Some e ↦ elim (nat_eq (station_of (event_of e)) s) as (λ b. nat_eq (station_of (event_of e)) s ≡ b
          → option_and_then (change_made r.setting.exercise (station_at r s) (log_before r s j)) (cond b (Some (event_of e)) None)
          ≡ (if is_some (cond b (Some (event_of e)) None) then changed_by r j (event_of e) else None)) [
            | false ↦ λ _. refl
            | true ↦ λ near. ap (λ t. change_made r.setting.exercise (station_at r t) (log_before r t j) (event_of e)) (sym (eqb-true _ s near))
          ] refl
    ]
