-- The chain of one station's entries (profile).
use Rattle.std.specs.Prelude.{◌≡◌, ◌<◌, ◌≤◌, ◌+◌, ℕ, length, slice_get, Option, None, IfSome}
use Rattle.exercise_model.specs.Recording.{PlainRecording}
use Rattle.exercise_model.specs.History.{event_of, station_of}
use Rattle.exercise_model.specs.Place.{own_event}
use Rattle.exercise_findings.specs.Column.{IsColumn}
use Rattle.exercise_conflict.specs.declared.own.StationChains.{StationChains}
use Rattle.exercise_conflict.specs.Near.{Nears, AreNears}

-- no entry of station s is at n or above and below m
pub record LeavesOutNone (r : PlainRecording) (s n m : ℕ) : Type 0 where
  pub on : n ≤ m
  pub none : (i : ℕ) → n ≤ i → i < m → own_event r s i ≡ None

-- the number is the next entry after j of its station
abbrev pub IsFollower : PlainRecording → ℕ → ℕ → Type 0
IsFollower r j number = IfSome (slice_get r.entries j) (λ e. LeavesOutNone r (station_of (event_of e)) (j + 1) number)

-- the number is the next entry after j of its station, if j is among the chained entries from n on
abbrev pub IsFollowerFrom : PlainRecording → ℕ → ℕ → ℕ → Type 0
IsFollowerFrom r n j number = n ≤ j → IsFollower r j number

-- THE CHAINS of the entries from n on: for each of them the next one of its station, and for each station the first of them
pub record AreOwnFrom (r : PlainRecording) (n : ℕ) (own : StationChains) : Type 0 where
  pub followers : IsColumn 0 (IsFollowerFrom r n) (length r.entries) own.followers.items
  pub first : IsColumn 0 (λ s number. LeavesOutNone r s n number) (length r.setting.stations) own.first.items

-- THE TABLES of a recording: the chains and the index of first sends, if present
pub record AreKept (r : PlainRecording) (o : Option StationChains) (n : Option Nears) : Type 0 where
  pub own : IfSome o (AreOwnFrom r 0)
  pub nears : IfSome n (AreNears r (length r.entries))
