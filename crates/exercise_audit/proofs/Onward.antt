-- The station whose turn is first takes its entry, or cannot go on.
use Rattle.std.proofs.Common.{◌≡◌, ℕ, ◌+◌, ◌-◌, ◌<◌, ◌≤◌, List, length, Option, None, true, refl, sym, ap, ◌∙◌, subst, arith}
use Rattle.std.specs.Prelude.{◌&&◌, nat_le, slice_get, slice_set, slice_index_or, is_some, IfSome}
use Rattle.std.proofs.lemmas.Bool.{and_parts, eq-eqb, leb-true}
use Rattle.std.proofs.lemmas.List.{length_push}
use Rattle.std.proofs.lemmas.Option.{slice_get_within}
use Rattle.exercise_model.specs.declared.cause.Cause.{Cause}
use Rattle.exercise_model.specs.declared.station.TheConstants.{MOST_STATIONS}
use Rattle.exercise_model.specs.Station.{are_rising}
use Rattle.exercise_model.specs.Recording.{PlainRecording, IsRecording}
use Rattle.exercise_model.specs.History.{event_of, station_of, log_at}
use Rattle.exercise_model.specs.Place.{log_before}
use Rattle.exercise_check.specs.declared.certificate.Step.{Step}
use Rattle.exercise_check.specs.declared.course.Progress.TheVariants.{Taken, Barred}
use Rattle.exercise_check.specs.Sequence.{is_next}
use Rattle.exercise_check.specs.Course.{CourseData, IsCourse, IsNext, GoesOn, with_step, so_far}
use Rattle.exercise_check.proofs.Offered.{own_entry, from_entry}
use Rattle.exercise_audit.specs.declared.turns.Moment.{Moment}
use Rattle.exercise_audit.specs.declared.turns.Turn.{Turn}
use Rattle.exercise_audit.specs.Next.{IsHeld}
use Rattle.exercise_audit.specs.Turns.{turn_of, IsFirstOf}
use Rattle.exercise_model.specs.Stamps.{AreStamps}
use Rattle.exercise_audit.specs.Waiting.{Waiting, waiting_for, Leaves}
use Rattle.exercise_audit.specs.Search.{IsNextMoment, IsTurn, Stands, IsSearch, HaveTurns, WaitsFor}
use Rattle.exercise_audit.proofs.Held.{NextOf, next_of, barred_held, barred_block}
use Rattle.exercise_audit.proofs.Standing.{IsStep, first_moment, held}
use Rattle.exercise_audit.proofs.Given.{search_on, search_barred}

-- the moment of a next entry, by its stamp
pub next_moment : (c : CourseData) (s i stamp : ℕ) (stamps : List ℕ) → AreStamps c.recording stamps → i < length c.recording.entries
    → IfSome (slice_get c.recording.entries i) (λ e. station_of (event_of e) ≡ s) → IsNext c i
    → stamp ≡ slice_index_or stamps i 0 → IsNextMoment c s (record { stamp = stamp; entry = i })
next_moment c s i stamp stamps are within own next is =
    let n = next_of c s i within own next in
    record { event = event_of n.entry; next = record { own = n.own; place = n.lengths }; stamp = is ∙ are.each i within }

-- what is known of the next entry of a station
pub moment_next : (c : CourseData) (s : ℕ) (m : Moment) → IsNextMoment c s m → NextOf c s m.entry
moment_next c s m next =
    let o = own_entry c.recording s m.entry (ap is_some next.next.own) in
    record { entry = o.0; at = o.1; own = o.3; lengths = next.next.place }

-- the entry of a first turn can be judged
pub record CanBeJudged (c : CourseData) (s i : ℕ) : Type 0 where
  pub within : i < length c.recording.entries
  pub at : s < length c.recording.setting.stations
  pub own : IfSome (slice_get c.recording.entries i) (λ e. station_of (event_of e) ≡ s)
  pub next : IsNext c i

pub can_be_judged : (c : CourseData) (waiting : Waiting) (turns : List (Option Moment)) (first : Turn) → IsSearch c waiting turns
    → IsFirstOf turns 0 (length turns) first → CanBeJudged c first.station first.moment.entry
unfolding is_next
can_be_judged c waiting turns first search is =
    let r = c.recording in
    let i = first.moment.entry in
    let next = first_moment c waiting turns first search is in
    let o = own_entry r first.station i (ap is_some next.next.own) in
    let lengths : length (log_at (station_of (event_of o.0)) (so_far c)) ≡ length (log_before r (station_of (event_of o.0)) i) =
    subst (λ t. length (log_at t (so_far c)) ≡ length (log_before r t i)) (sym o.2) (sym next.next.place) in
    record {
      within = slice_get_within r.entries i o.0 o.1;
      at = omega (arith, is.within, search.count);
      own = subst (λ x. IfSome x (λ e. station_of (event_of e) ≡ first.station)) (sym o.1) o.2;
      next = subst (λ x. IfSome x (λ e. is_next r c.steps i (event_of e) ≡ true)) (sym o.1) (eq-eqb _ _ lengths);
    }

-- IT IS TAKEN, and those that waited for it have their turns
pub search_taken : (old new : CourseData) (waiting waits : Waiting) (turns given : List (Option Moment)) (first : Turn) (t : Option Moment) (link : ℕ)
    (woken : List ℕ) → IsSearch old waiting turns → IsFirstOf turns 0 (length turns) first
    → IfSome (slice_get old.recording.entries first.moment.entry) (GoesOn old new first.moment.entry (Taken link)) → IsCourse new
    → IsTurn new first.station t → woken ≡ waiting_for waiting first.moment.entry → Leaves waiting waits first.moment.entry
    → HaveTurns new woken (slice_set turns first.station t) given → IsSearch new waits given
search_taken old new waiting waits turns given first t link woken search is goes course turn listed leaves have =
    let r = old.recording in
    let i = first.moment.entry in
    let next = first_moment old waiting turns first search is in
    let o = own_entry r first.station i (ap is_some next.next.own) in
    let takes = from_entry _ o.0 (GoesOn old new i (Taken link)) o.1 goes in
    let step : Step = record { place = i; link = link } in
    let lengths : length (log_before r (station_of (event_of o.0)) i) ≡ length (log_at (station_of (event_of o.0)) (so_far old)) =
    subst (λ t. length (log_before r t i) ≡ length (log_at t (so_far old))) (sym o.2) next.next.place in
    let stepped : IsStep old step o.0 = record { course = search.course; after = subst IsCourse takes.new_is course; at = o.1; next = lengths } in
    let given_there : HaveTurns (with_step old step) (waiting_for waiting i) (slice_set turns first.station t) given =
    subst (λ xs. HaveTurns (with_step old step) xs (slice_set turns first.station t) given) listed
    (subst (λ c. HaveTurns c woken (slice_set turns first.station t) given) takes.new_is have) in
    subst (λ c. IsSearch c waits given) (sym takes.new_is)
    (search_on old step o.0 stepped waiting waits leaves turns (slice_set turns first.station t) given search first is refl o.2 t
    (subst (λ c. IsTurn c first.station t) takes.new_is turn) refl given_there)

pub one_longer : (old new : CourseData) (waiting : Waiting) (turns : List (Option Moment)) (first : Turn) (link : ℕ) → IsSearch old waiting turns
    → IsFirstOf turns 0 (length turns) first
    → IfSome (slice_get old.recording.entries first.moment.entry) (GoesOn old new first.moment.entry (Taken link))
    → (new.recording ≡ old.recording) × (length new.steps ≡ length old.steps + 1)
one_longer old new waiting turns first link search is goes =
    let next = first_moment old waiting turns first search is in
    let o = own_entry old.recording first.station first.moment.entry (ap is_some next.next.own) in
    let takes = from_entry _ o.0 (GoesOn old new first.moment.entry (Taken link)) o.1 goes in
    let step : Step = record { place = first.moment.entry; link = link } in
    (ap (λ (c : CourseData). c.recording) takes.new_is, ap (λ (c : CourseData). length c.steps) takes.new_is ∙ length_push old.steps step)

-- IT CANNOT GO ON, and has no turn
pub barred_same : (old new : CourseData) (waiting : Waiting) (turns : List (Option Moment)) (first : Turn) (cause : Cause)
    → IsSearch old waiting turns → IsFirstOf turns 0 (length turns) first
    → IfSome (slice_get old.recording.entries first.moment.entry) (GoesOn old new first.moment.entry (Barred cause)) → new ≡ old
barred_same old new waiting turns first cause search is goes =
    let next = moment_next old first.station first.moment (first_moment old waiting turns first search is) in
    (barred_held old new first.station first.moment.entry cause next goes).1

pub search_stopped : (old new : CourseData) (waiting waits : Waiting) (turns : List (Option Moment)) (first : Turn) (cause : Cause)
    → IsSearch old waiting turns → IsFirstOf turns 0 (length turns) first
    → IfSome (slice_get old.recording.entries first.moment.entry) (GoesOn old new first.moment.entry (Barred cause))
    → WaitsFor new.recording first.moment.entry first.station cause waiting waits → IsSearch new waits (slice_set turns first.station None)
search_stopped old new waiting waits turns first cause search is goes waited =
    let next = moment_next old first.station first.moment (first_moment old waiting turns first search is) in
    let same = barred_same old new waiting turns first cause search is goes in
    let block = barred_block old new first.station first.moment.entry cause next goes in
    let here = subst (λ (c : CourseData). WaitsFor c.recording first.moment.entry first.station cause waiting waits) same waited in
    subst (λ c. IsSearch c waits (slice_set turns first.station None)) (sym same)
    (search_barred old waiting waits turns first.station _ search is.within block here)

-- where no station has a turn, each is held
pub all_held : (c : CourseData) (waiting : Waiting) (turns : List (Option Moment)) → IsSearch c waiting turns
    → ((s : ℕ) → s < length turns → turn_of turns s ≡ None) → (s : ℕ) → s < length c.recording.setting.stations → IsHeld c.recording (so_far c) s
all_held c waiting turns search none s l =
    let within : s < length turns = omega (arith, l, search.count) in
    held c waiting s (subst (Stands c waiting s) (none s within) (search.each s within))

-- one step more leaves fewer entries
pub fewer_left : (entries steps more all : ℕ) → more ≡ steps + 1 → more ≤ all → all ≡ entries → entries - more < entries - steps
fewer_left entries steps more all longer few same = omega (arith, longer, few, same)

-- a recording has few stations
pub few_stations : (r : PlainRecording) → IsRecording r → length r.setting.stations ≤ MOST_STATIONS
few_stations r limits =
    let some = and_parts (nat_le 1 (length r.setting.stations)) (nat_le (length r.setting.stations) MOST_STATIONS && are_rising None r.setting.stations)
    limits.setting.stations in
    leb-true _ _ (and_parts (nat_le (length r.setting.stations) MOST_STATIONS) (are_rising None r.setting.stations) some.1).0
