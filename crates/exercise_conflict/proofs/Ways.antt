-- Where the ways of those who wait end.
use Rattle.std.proofs.Common.{◌≡◌, ◌⊎◌, ⊎_elim, inl, inr, ℕ, zero, suc, ◌<◌, ◌≤◌, List, length, Some, None, refl, sym, ap, ◌∙◌, subst, arith}
use Rattle.std.specs.Prelude.{option_map, option_and_then, unwrap_or, nat_le, ◌&&◌}
use Rattle.std.proofs.lemmas.Bool.{cases_lt, and_parts, leb-true}
use Rattle.exercise_model.specs.declared.station.TheConstants.{MOST_STATIONS}
use Rattle.exercise_model.specs.Station.{are_rising}
use Rattle.exercise_model.specs.Recording.{PlainRecording, IsRecording}
use Rattle.exercise_model.specs.History.{Event, Send, event_of, station_of}
use Rattle.exercise_model.specs.Place.{own_event}
use Rattle.exercise_model.proofs.Offered.{entry_station}
use Rattle.exercise_conflict.specs.declared.waits.Wait.{Wait}
use Rattle.exercise_conflict.specs.Cycles.{wait_at, station_reached, AreWaits, EndsAt, IsTold}
use Rattle.exercise_conflict.proofs.Blocks.{own_entry}
use Rattle.exercise_conflict.proofs.Rounds.{round_told}
use Rattle.exercise_conflict.proofs.Twice.{meet}

-- so many steps come to a station that there is
record Comes (r : PlainRecording) (waits : List Wait) (s n : ℕ) : Type 0 where
  pub station : ℕ
  pub come : station_reached waits s n ≡ Some station
  pub within : station < length r.setting.stations

own_station : (r : PlainRecording) (s i : ℕ) (v : Event) → IsRecording r → own_event r s i ≡ Some v → s < length r.setting.stations
own_station r s i v limits own =
    let at = own_entry r s i v own in
    let same : station_of (event_of at.entry) ≡ s = ap station_of at.is ∙ at.station in
    subst (λ k. k < length r.setting.stations) same (entry_station (length r.setting.stations) r.entries i at.entry limits.each_entry at.at)

-- the first steps come somewhere, or the way ends
come_far : (r : PlainRecording) (waits : List Wait) (s : ℕ) → IsRecording r → AreWaits r waits → s < length r.setting.stations → (n : ℕ)
    → EndsAt waits s ⊎ ((k : ℕ) → k ≤ n → Comes r waits s k)
unfolding station_reached
come_far r waits s limits hold within zero =
    inr (λ k le. let at : 0 ≡ k = omega (arith, le) in subst (Comes r waits s) at (record { station = s; come = refl; within = within }))
come_far r waits s limits hold within (suc n) =
    ⊎_elim
    (λ (ends : EndsAt waits s). inl ends)
    (λ (far : (k : ℕ) → k ≤ n → Comes r waits s k).
    let here = far n (omega arith) in
    elim (wait_at waits here.station) as (λ o. wait_at waits here.station ≡ o → EndsAt waits s ⊎ ((k : ℕ) → k ≤ suc n → Comes r waits s k)) [
      | None ↦ λ none. inl (record { steps = n; station = here.station; come = here.come; none = none })
      | Some w ↦ λ is. inr (λ k le. ⊎_elim
          (λ (less : k < suc n). far k (omega (arith, less)))
          (λ (most : suc n ≤ k). let at : suc n ≡ k = omega (arith, le, most) in subst (Comes r waits s) at (record {
            station = w.on;
            come = ap (option_and_then (λ t. option_map (λ (w : Wait). w.on) (wait_at waits t))) here.come ∙ ap (option_map (λ (w : Wait). w.on)) is;
            within = own_station r w.on w.sent (Send w.on (hold.each here.station w is).bytes) limits (hold.each here.station w is).sends;
          }))
          (cases_lt k (suc n)))
    ] refl)
    (come_far r waits s limits hold within n)

-- there are at most as many stations as a recording may have
few : (r : PlainRecording) → IsRecording r → length r.setting.stations ≤ MOST_STATIONS
few r limits =
    let ss = r.setting.stations in
    let parts = and_parts (nat_le 1 (length ss)) (nat_le (length ss) MOST_STATIONS && are_rising None ss) limits.setting.stations in
    leb-true (length ss) MOST_STATIONS (and_parts (nat_le (length ss) MOST_STATIONS) (are_rising None ss) parts.1).0

-- THE WAYS END
pub ways_end : (r : PlainRecording) (waits : List Wait) (s : ℕ) → IsRecording r → AreWaits r waits → s < length r.setting.stations
    → EndsAt waits s ⊎ IsTold waits s
ways_end r waits s limits hold within =
    ⊎_elim
    (λ (ends : EndsAt waits s). inl ends)
    (λ (far : (k : ℕ) → k ≤ length r.setting.stations → Comes r waits s k).
    let f : ℕ → ℕ = λ k. unwrap_or (station_reached waits s k) 0 in
    let is : (k : ℕ) → (le : k ≤ length r.setting.stations) → f k ≡ (far k le).station = λ k le. ap (λ o. unwrap_or o 0) (far k le).come in
    let two = meet f (length r.setting.stations) (λ k le. subst (λ m. m < length r.setting.stations) (sym (is k le)) (far k le).within) in
    let early : two.first ≤ length r.setting.stations = omega (arith, two.later, two.within) in
    let one = far two.first early in
    let other = far two.second two.within in
    inr (round_told waits s (record {
      first = two.first;
      second = two.second;
      soon = omega (arith, two.within, few r limits);
      station = one.station;
      later = two.later;
      come = one.come;
      again = other.come ∙ ap Some (sym (is two.second two.within) ∙ sym two.same ∙ is two.first early);
    })))
    (come_far r waits s limits hold within (length r.setting.stations))
