-- What the log of one station says does not depend on the index of that station.
use Rattle.std.proofs.Common.{◌≡◌, ℕ, List, [], ◌∷◌, map, Bool, refl, ap, ◌∙◌}
use Rattle.std.specs.Prelude.{◌||◌, option_and_then}
use Rattle.std.specs.List.{list_any}
use Rattle.std.specs.Option.{option_map_or, option_or}
use Rattle.dis_records.specs.declared.address.SiteApplication.{SiteApplication}
use Rattle.siman_pdus.specs.declared.pdu.Pdu.{Pdu}
use Rattle.exercise_model.specs.declared.acknowledge.AcknowledgeKey.{AcknowledgeKey}
use Rattle.exercise_model.specs.Station.{StationData}
use Rattle.exercise_model.specs.History.{Event, Send, Get, Tell, History}
use Rattle.exercise_model.specs.Meaning.{meaning}
use Rattle.exercise_model.specs.Exchange.{request_brought, request_taken_up}
use Rattle.exercise_model.specs.Change.{sends_under, was_acknowledged}
use Rattle.exercise_model.specs.State.{change_made, changed, entity_state, state_after}
use Rattle.exercise_model.specs.Cause.{sends_other, is_reused, send_cause, sends, was_sent}
use Rattle.exercise_model.specs.Part.{at_station}
use Rattle.exercise_model.proofs.AlikeLogs.{HaveSameExchanges, AreAlikeLogs, sent_alike, state_alike, sending_alike}

-- the log at another index of its station
abbrev pub moved : ℕ → History → History
moved s log = map (at_station s) log

any_moved : (test : Event → Bool) (s : ℕ) (log : History) → ((v : Event) → test (at_station s v) ≡ test v) → list_any test (moved s log) ≡ list_any test log
any_moved test s [] same = refl
any_moved test s (v ∷ log) same = ap (λ b. b || list_any test (moved s log)) (same v) ∙ ap (λ b. test v || b) (any_moved test s log same)

pub sent_moved : (b : List ℕ) (s : ℕ) (log : History) → was_sent b (moved s log) ≡ was_sent b log
unfolding was_sent
sent_moved b s log = any_moved (sends b) s log same where
  same : (v : Event) → sends b (at_station s v) ≡ sends b v
  same (Send t c) = refl
  same (Get t c) = refl
  same (Tell t e y) = refl

reused_moved : (x : ℕ) (p : Pdu) (s : ℕ) (log : History) → is_reused x p (moved s log) ≡ is_reused x p log
unfolding is_reused
reused_moved x p s log = any_moved (sends_other x p) s log same where
  same : (v : Event) → sends_other x p (at_station s v) ≡ sends_other x p v
  same (Send t c) = refl
  same (Get t c) = refl
  same (Tell t e y) = refl

acknowledged_moved : (x response : ℕ) (k : AcknowledgeKey) (s : ℕ) (log : History) → was_acknowledged x response k (moved s log) ≡ was_acknowledged x response k log
unfolding was_acknowledged
acknowledged_moved x response k s log = any_moved (sends_under x response k) s log same where
  same : (v : Event) → sends_under x response k (at_station s v) ≡ sends_under x response k v
  same (Send t c) = refl
  same (Get t c) = refl
  same (Tell t e y) = refl

taken_moved : (x : ℕ) (a : SiteApplication) (p : Pdu) (s : ℕ) (log : History) → request_taken_up x a p (moved s log) ≡ request_taken_up x a p log
unfolding request_taken_up
taken_moved x a p s [] = refl
taken_moved x a p s (v ∷ log) =
    ap (λ o. option_or o (request_brought x a p (at_station s v))) (taken_moved x a p s log) ∙ ap (option_or (request_taken_up x a p log)) (same v) where
      same : (v : Event) → request_brought x a p (at_station s v) ≡ request_brought x a p v
      same (Send t c) = refl
      same (Get t c) = refl
      same (Tell t e y) = refl

-- the exchanges are the same
moved_exchanges : (x : ℕ) (o : StationData) (s : ℕ) (log : History) → HaveSameExchanges x o (moved s log) log
moved_exchanges x o s log = record {
  reused = λ p. reused_moved x p s log;
  acknowledged = λ response k. acknowledged_moved x response k s log;
  taken = λ p. taken_moved x o.address p s log;
}

change_made_moved : (x : ℕ) (o : StationData) (s : ℕ) (log : History) (v : Event) → change_made x o (moved s log) (at_station s v) ≡ change_made x o log v
change_made_moved x o s log (Send t b) = sent_alike x o (moved s log) log (moved_exchanges x o s log) b
change_made_moved x o s log (Get t b) = refl
change_made_moved x o s log (Tell t e y) = refl

entity_moved : (x : ℕ) (o : StationData) (s : ℕ) (log : History) (e : ℕ) → entity_state x o (moved s log) e ≡ entity_state x o log e
unfolding entity_state
entity_moved x o s [] e = refl
entity_moved x o s (v ∷ log) e =
    ap (λ y. option_map_or (changed e y) (change_made x o (moved s log) (at_station s v)) y) (entity_moved x o s log e)
    ∙ ap (λ c. option_map_or (changed e (entity_state x o log e)) c (entity_state x o log e)) (change_made_moved x o s log v)

-- and all else that the log says
moved_alike : (x : ℕ) (o : StationData) (s : ℕ) (log : History) → AreAlikeLogs x o (moved s log) log
moved_alike x o s log = record { exchanges = moved_exchanges x o s log; state = entity_moved x o s log }

pub state_moved : (x : ℕ) (o : StationData) (s : ℕ) (log : History) (e : ℕ) → state_after x o (moved s log) e ≡ state_after x o log e
state_moved x o s log e = state_alike x o (moved s log) log (moved_alike x o s log) e

pub sending_moved : (x : ℕ) (o : StationData) (s : ℕ) (log : History) (b : List ℕ)
    → option_and_then (send_cause x o (moved s log)) (meaning x b) ≡ option_and_then (send_cause x o log) (meaning x b)
sending_moved x o s log b = sending_alike x o (moved s log) log (moved_alike x o s log) b
