-- The spans of the lives of a recording's entities, by station, entity and time (profile).
use Rattle.std.specs.Prelude.{ℕ, ◌+◌, List, [], ◌∷◌, length, map, Option, option_map, option_and_then}
use Rattle.std.specs.Option.{option_to_list}
use Rattle.dis_records.specs.declared.entity.EntityId.{EntityId}
use Rattle.dis_records.specs.Entity.{site_application_of, entity_of}
use Rattle.siman_pdus.specs.declared.pdu.Pdu.{Pdu}
use Rattle.siman_pdus.specs.Role.{request_id_of}
use Rattle.exercise_model.specs.declared.station.TheConstants.{LARGEST_ENTITY}
use Rattle.exercise_model.specs.declared.state.Change.{Change}
use Rattle.exercise_model.specs.Recording.{PlainRecording}
use Rattle.exercise_model.specs.History.{station_at}
use Rattle.exercise_model.specs.State.{changed, change_made}
use Rattle.exercise_model.specs.Place.{own_event, log_before}
use Rattle.exercise_model.specs.Account.{pair_of as pair_at_entry}
use Rattle.exercise_review.specs.declared.life.Stretch.{Stretch}
use Rattle.exercise_review.specs.declared.changes.Made.{Made}
use Rattle.exercise_review.specs.declared.span.Span.{Span}
use Rattle.exercise_review.specs.Entries.{pdu_at}
use Rattle.exercise_review.specs.Life.{LifeSoFar, life_after, lives_of}
use Rattle.exercise_review.specs.Outcome.{stamp_at}
use Rattle.exercise_review.specs.Room.{lists_below}

-- ---- spans

-- the request that the answer at entry i takes up, such as the answer at the start of a span
unfoldable pub request_behind : PlainRecording → ℕ → Option Pdu
request_behind r i = option_and_then (pdu_at r) (pair_at_entry r i)

-- A SPAN OF AN ENTITY'S LIFE: a stretch with the stamps of its ends, and with the request of the change that began it
abbrev pub span_of : PlainRecording → EntityId → Stretch → Span
span_of r id x = record {
  entity = id;
  state = x.state;
  from = x.from;
  to = x.until;
  since = option_and_then (stamp_at r) x.from;
  until = option_and_then (stamp_at r) x.until;
  by = option_map (λ p. site_application_of p.origin) (option_and_then (request_behind r) x.from);
  request = option_and_then (λ p. request_id_of p.body) (option_and_then (request_behind r) x.from);
}

-- the spans of entity e of station s
abbrev pub entity_spans : PlainRecording → ℕ → ℕ → List Span
entity_spans r s e = map (span_of r (entity_of (station_at r s).address e)) (lives_of r s e)

-- the spans of entity n + 1, since entities are numbered from 1
abbrev pub spans_of_next : PlainRecording → ℕ → ℕ → List Span
spans_of_next r s n = entity_spans r s (n + 1)

-- THE SPANS OF THE LIVES OF STATION s, of its entities 1 to 0xFFFD in order
unfoldable pub spans_of : PlainRecording → ℕ → List Span
spans_of r s = lists_below (spans_of_next r s) LARGEST_ENTITY

-- the spans of all stations
unfoldable pub all_spans : PlainRecording → List Span
all_spans r = lists_below (spans_of r) (length r.setting.stations)

-- ---- how they are found

-- the change that entry i makes at station s
abbrev pub own_change : PlainRecording → ℕ → ℕ → Option Change
own_change r s i = option_and_then (change_made r.setting.exercise (station_at r s) (log_before r s i)) (own_event r s i)

-- the change of entry i, as a value of the code
abbrev pub made_of : ℕ → Change → Made
made_of i c = record { entry = i; change = c }

-- the change that station s makes at entry i, if any, as a list
unfoldable pub made_at : PlainRecording → ℕ → ℕ → List Made
made_at r s i = option_to_list (option_map (made_of i) (own_change r s i))

-- the changes of station s, in order
unfoldable pub changes_made : PlainRecording → ℕ → List Made
changes_made r s = lists_below (made_at r s) (length r.entries)

-- a life of entity e after changes of its station
abbrev pub life_by_changes : ℕ → LifeSoFar → List Made → LifeSoFar
life_by_changes e l [] = l
life_by_changes e l (m ∷ ms) = life_by_changes e (life_after l m.entry (changed e l.state m.change)) ms
