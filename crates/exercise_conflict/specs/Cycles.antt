-- Rings of stations that wait for one another (profile).
use Rattle.std.specs.Prelude.{◌≡◌, ◌<◌, ◌≤◌, Bool, true, false, ◌++◌, ℕ, zero, suc, List, [], ◌∷◌, ◌==◌, nat_lt, Option, Some, None, option_map, option_and_then, if◌then◌else◌}
use Rattle.exercise_model.specs.declared.station.TheConstants.{MOST_STATIONS}
use Rattle.exercise_model.specs.Recording.{PlainRecording}
use Rattle.exercise_conflict.specs.declared.waits.Wait.{Wait}
use Rattle.exercise_conflict.specs.Waits.{IsWait}

-- the wait of a station, if it has one
unfoldable pub wait_at : List Wait → ℕ → Option Wait
wait_at [] s = None
wait_at (w ∷ waits) s = if w.station == s then Some w else wait_at waits s

-- the stations from t on, each waiting for the next, up to the one that waits for s; none if s is not reached within n steps, or a station before it does
-- not wait or is below s
unfoldable pub waiting_path : List Wait → ℕ → ℕ → ℕ → Option (List ℕ)
waiting_path waits s t zero = None
waiting_path waits s t (suc n) =
    if t == s then Some []
    else (if nat_lt s t then option_and_then (λ w. option_map (λ way. t ∷ way) (waiting_path waits s w.on n)) (wait_at waits t) else None)

-- THE CYCLE AT A STATION: the stations from s on, each waiting for the next and the last for s, where s is the lowest of them; none if there is no such cycle
unfoldable pub cycle_at : List Wait → ℕ → Option (List ℕ)
cycle_at waits s = option_and_then (λ w. option_map (λ way. s ∷ way) (waiting_path waits s w.on MOST_STATIONS)) (wait_at waits s)

-- the path back to s, if it exists, was appended
abbrev pub IsWaitingPath : List Wait → ℕ → ℕ → List ℕ → List ℕ → Bool → Type 0
IsWaitingPath waits s t old new true = (way : List ℕ) × (waiting_path waits s t MOST_STATIONS ≡ Some way) × (new ≡ old ++ way)
IsWaitingPath waits s t old new false = waiting_path waits s t MOST_STATIONS ≡ None

-- WAITS THAT HOLD: each is true of the logs, and if the station waited for waits too, `next` is the entry of that wait
pub record AreWaits (r : PlainRecording) (waits : List Wait) : Type 0 where
  pub each : (s : ℕ) (w : Wait) → wait_at waits s ≡ Some w → IsWait r w
  pub on : (s : ℕ) (w u : Wait) → wait_at waits s ≡ Some w → wait_at waits w.on ≡ Some u → w.next ≡ u.entry

-- ---- ends of ways

-- the station reached from s by this many steps, each to the station waited for; none if one of them does not wait
unfoldable pub station_reached : List Wait → ℕ → ℕ → Option ℕ
station_reached waits s zero = Some s
station_reached waits s (suc n) = option_and_then (λ t. option_map (λ (w : Wait). w.on) (wait_at waits t)) (station_reached waits s n)

-- the way from s ends at a station that waits for nobody
pub record EndsAt (waits : List Wait) (s : ℕ) : Type 0 where
  pub steps : ℕ
  pub station : ℕ
  pub come : station_reached waits s steps ≡ Some station
  pub none : wait_at waits station ≡ None

-- the way from s reaches one station twice within MOST_STATIONS steps, and so is circular
pub record IsCircular (waits : List Wait) (s : ℕ) : Type 0 where
  pub first : ℕ
  pub second : ℕ
  pub station : ℕ
  pub later : first < second
  pub soon : second ≤ MOST_STATIONS
  pub come : station_reached waits s first ≡ Some station
  pub again : station_reached waits s second ≡ Some station

-- the way from s reaches a station with a cycle
pub record IsTold (waits : List Wait) (s : ℕ) : Type 0 where
  pub steps : ℕ
  pub station : ℕ
  pub come : station_reached waits s steps ≡ Some station
  pub cycle : List ℕ
  pub told : cycle_at waits station ≡ Some cycle
