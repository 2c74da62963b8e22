-- The compact form of the spans of lives: their entries are numbers of 32 bits (profile).
use Rattle.std.specs.Prelude.{◌≡◌, ℕ, ◌+◌, ◌<◌, ◌≤◌, List, [], ◌∷◌, length, map, None, Result, Ok, Err, Vec, if◌then◌else◌}
use Rattle.std.specs.declared.alloc.Global.{Global}
use Rattle.dis_records.specs.declared.entity_state.EntityState.{EntityState}
use Rattle.dis_records.specs.Entity.{entity_of}
use Rattle.exercise_model.specs.declared.station.TheConstants.{LARGEST_ENTITY}
use Rattle.exercise_model.specs.Station.{is_absent}
use Rattle.exercise_model.specs.Recording.{PlainRecording}
use Rattle.exercise_model.specs.History.{station_at}
use Rattle.exercise_model.specs.Cause.{same_state}
use Rattle.exercise_findings.specs.Number.{entry_number, entry_of}
use Rattle.exercise_review.specs.declared.fault.ReviewFault.{ReviewFault}
use Rattle.exercise_review.specs.declared.fault.ReviewFault.TheVariants.{OverLimit, Memory}
use Rattle.exercise_review.specs.declared.life.Stretch.{Stretch}
use Rattle.exercise_review.specs.declared.span.Span.{Span}
use Rattle.exercise_review.specs.declared.stay.Stay.{Stay}
use Rattle.exercise_review.specs.Life.{LifeSoFar, lives_of}
use Rattle.exercise_review.specs.Room.{lists_below}
use Rattle.exercise_review.specs.Span.{span_of}

-- the stretch that a stay represents
abbrev pub stretch_in : Stay → Stretch
stretch_in y = record { state = y.state; from = entry_of y.from; until = entry_of y.until }

-- THE SPAN THAT A STAY REPRESENTS
abbrev pub span_at : PlainRecording → Stay → Span
span_at r y = span_of r (entity_of (station_at r y.station).address y.entity) (stretch_in y)

-- STAYS OF THESE SPANS, at most `most`; OverLimit means that these would be more; Memory says nothing
abbrev pub StaysWithin : PlainRecording → (most : ℕ) → List Span → Result (Vec Stay Global) ReviewFault → Type 0
StaysWithin r most spans (Ok stays) = (map (span_at r) stays.items ≡ spans) × (length stays.items ≤ most)
StaysWithin r most spans (Err OverLimit) = most < length spans
StaysWithin r most spans (Err Memory) = Unit {0}

-- ---- how they are found

-- the stay of a stretch of the life of entity e of station s
abbrev pub stay_of : ℕ → ℕ → Stretch → Stay
stay_of s e x = record { station = s; entity = e; state = x.state; from = entry_number x.from; until = entry_number x.until }

-- the stays of entity e of station s
abbrev pub entity_stays : PlainRecording → ℕ → ℕ → List Stay
entity_stays r s e = map (stay_of s e) (lives_of r s e)

-- the stays of entity n + 1, since entities are numbered from 1
abbrev pub stays_of_next : PlainRecording → ℕ → ℕ → List Stay
stays_of_next r s n = entity_stays r s (n + 1)

-- the stays of station s, of its entities 1 to 0xFFFD in order
unfoldable pub stays_of : PlainRecording → ℕ → List Stay
stays_of r s = lists_below (stays_of_next r s) LARGEST_ENTITY

-- the stays of all stations
unfoldable pub all_stays : PlainRecording → List Stay
all_stays r = lists_below (stays_of r) (length r.setting.stations)

-- the current stretch of a life, without an end
abbrev pub stretch_so_far : LifeSoFar → Stretch
stretch_so_far l = record { state = l.state; from = l.since; until = None }

-- a stay that ends at the entry with number n: none if the entity is Absent
abbrev pub stay_ended_at : Stay → ℕ → List Stay
stay_ended_at y n = if is_absent y.state then [] else record y { until = n } ∷ []

-- the stay that ends at an entry that leaves the entity in state z, if that differs
abbrev pub stay_ended_by : Stay → ℕ → EntityState → List Stay
stay_ended_by y n z = if same_state z y.state then [] else stay_ended_at y n

-- the current stay after that entry
abbrev pub stay_after : Stay → ℕ → EntityState → Stay
stay_after y n z = if same_state z y.state then y else record y { state = z; from = n }
