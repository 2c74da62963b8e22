-- Next entry of each station, and for each entry the following one of its station (profile).
use Rattle.std.specs.Prelude.{◌≡◌, ◌<◌, ◌≤◌, ◌+◌, ℕ, List, length, slice_get, is_some, true, IfSome}
use Rattle.exercise_model.specs.Recording.{PlainRecording}
use Rattle.exercise_model.specs.History.{event_of, station_of, log_at}
use Rattle.exercise_model.specs.Place.{log_before, own_event}
use Rattle.exercise_check.specs.declared.certificate.Step.{Step}
use Rattle.exercise_check.specs.declared.cursors.Cursors.{Cursors}
use Rattle.exercise_check.specs.Sequence.{sequence_of}
use Rattle.exercise_findings.specs.Column.{IsColumn}

-- The number represents entry k of station s, counted among the station's own entries: it is the number of that
-- entry, or, if the station has no such entry, a number that no entry has.
pub record Represents (r : PlainRecording) (s k number : ℕ) : Type 0 where
  pub own : number < length r.entries → is_some (own_event r s number) ≡ true
  pub rank : number < length r.entries → length (log_before r s number) ≡ k
  pub none : length r.entries ≤ number → length (log_before r s (length r.entries)) ≤ k

-- the number represents the entry of station s that follows its entries below n
abbrev pub IsNextFrom : PlainRecording → ℕ → ℕ → ℕ → Type 0
IsNextFrom r n s number = Represents r s (length (log_before r s n)) number

-- the number represents the entry of station s that follows those of these steps
abbrev pub IsNextAfter : PlainRecording → List Step → ℕ → ℕ → Type 0
IsNextAfter r steps s number = Represents r s (length (log_at s (sequence_of r steps))) number

-- the number represents the entry that follows entry j at its station
abbrev pub IsFollower : PlainRecording → ℕ → ℕ → Type 0
IsFollower r j number = IfSome (slice_get r.entries j) (λ e. IsNextFrom r (j + 1) (station_of (event_of e)) number)

-- for each entry j from n on, the number represents the entry that follows j at its station
abbrev pub IsFollowerFrom : PlainRecording → ℕ → ℕ → ℕ → Type 0
IsFollowerFrom r n j number = n ≤ j → IsFollower r j number

-- THE CURSORS once the entries from n on are added: the follower of each of them, and for each station its first of
-- them
pub record AreCursorsFrom (r : PlainRecording) (n : ℕ) (c : Cursors) : Type 0 where
  pub followers : IsColumn 0 (IsFollowerFrom r n) (length r.entries) c.followers.items
  pub next : IsColumn 0 (IsNextFrom r n) (length r.setting.stations) c.next.items

-- THE CURSORS after steps: the follower of each entry, and for each station its next one
pub record AreCursors (r : PlainRecording) (steps : List Step) (c : Cursors) : Type 0 where
  pub followers : IsColumn 0 (IsFollower r) (length r.entries) c.followers.items
  pub next : IsColumn 0 (IsNextAfter r steps) (length r.setting.stations) c.next.items
