-- Turns that are given and taken away, and what the search knows then.
use Rattle.std.proofs.Common.{◌≡◌, ⊎_elim, inl, inr, ℕ, ◌+◌, ◌<◌, List, [], ◌∷◌, ◌++◌, length, take, Option, Some, None, Bool, true, false, refl, sym, ap, ◌∙◌, subst, arith}
use Rattle.std.specs.Prelude.{◌⊎◌, ◌==◌, slice_set, slice_index_or, IfSome, Contains, if◌then◌else◌}
use Rattle.std.proofs.lemmas.Bool.{cases_eq, eq-eqb}
use Rattle.std.proofs.lemmas.List.{take_more, length-set, get_or-set_same, get_or-set_other}
use Rattle.std.proofs.lemmas.List.Elements.{Contains-append_left, Contains-append_right, Contains-append_cases}
use Rattle.exercise_model.specs.declared.cause.Cause.{Cause}
use Rattle.exercise_model.specs.Entry.{Entry}
use Rattle.exercise_model.specs.Recording.{PlainRecording}
use Rattle.exercise_model.specs.History.{event_of, station_of}
use Rattle.exercise_findings.specs.Source.{source_of}
use Rattle.exercise_check.specs.declared.certificate.Step.{Step}
use Rattle.exercise_check.specs.Course.{CourseData, IsCourse, with_step, so_far}
use Rattle.exercise_check.specs.Judging.{is_never_sent}
use Rattle.exercise_audit.specs.declared.blocks.Block.{Block}
use Rattle.exercise_audit.specs.declared.turns.Moment.{Moment}
use Rattle.exercise_audit.specs.declared.turns.Turn.{Turn}
use Rattle.exercise_audit.specs.Time.{IsEarliest, IsTimely}
use Rattle.exercise_audit.specs.Audit.{IsBlock}
use Rattle.exercise_audit.specs.Turns.{turn_of, IsFirstOf}
use Rattle.exercise_audit.specs.Waiting.{Waiting, waiting_for, Leaves}
use Rattle.exercise_audit.specs.Search.{IsTurn, IsHeldUp, Stands, IsSearch, HaveTurns, Waits, WaitsFor}
use Rattle.exercise_audit.proofs.Standing.{IsStep, earliest, timely_more, stands_on, never_sent, other_cause}

-- ---- turns that are given

pub none_given : (c : CourseData) (was : List (Option Moment)) → HaveTurns c [] was was
none_given c was = record { count = refl; each = λ s l. inr (refl, λ among. omega (arith, among.1)) }

pub one_given : (c : CourseData) (stations : List ℕ) (x : ℕ) (was turns : List (Option Moment)) (t : Option Moment) → HaveTurns c stations was turns
    → IsTurn c x t → HaveTurns c (stations ++ x ∷ []) was (slice_set turns x t)
one_given c stations x was turns t have turn = record {
  count = length-set turns x t ∙ have.count;
  each = λ s l. ⊎_elim
      (λ (same : s ≡ x).
      let here : turn_of (slice_set turns x t) s ≡ t = ap (turn_of (slice_set turns x t)) same ∙ get_or-set_same turns x t None (omega (arith, l, have.count, same)) in
      inl (subst (IsTurn c s) (sym here) (subst (λ s. IsTurn c s t) (sym same) turn)))
      (λ (other : s ≡ x → ⊥).
      let there : turn_of (slice_set turns x t) s ≡ turn_of turns s = get_or-set_other turns x s t None other in
      ⊎_elim
      (λ (given : IsTurn c s (turn_of turns s)). inl (subst (IsTurn c s) (sym there) given))
      (λ (not : (turn_of turns s ≡ turn_of was s) × (Contains stations s → ⊥)).
      inr (there ∙ not.0, λ among. ⊎_elim not.1 (λ (last : Contains (x ∷ []) s). other (sym (only last))) (Contains-append_cases stations (x ∷ []) s among)))
      (have.each s l))
      (cases_eq s x);
}
  where
    only : {y : ℕ} → Contains (x ∷ []) y → x ≡ y
    only {y} among = grind (arith, among.1, among.2)

-- the stations of a list up to one more
pub given_more : (c : CourseData) (stations : List ℕ) (i : ℕ) (was turns given : List (Option Moment)) (t : Option Moment) → i < length stations
    → HaveTurns c (take i stations) was turns → IsTurn c (slice_index_or stations i 0) t → given ≡ slice_set turns (slice_index_or stations i 0) t
    → HaveTurns c (take (i + 1) stations) was given
given_more c stations i was turns given t within have turn set =
    let more = one_given c (take i stations) (slice_index_or stations i 0) was turns t have turn in
    subst (λ xs. HaveTurns c xs was given) (sym (take_more stations i 0 within)) (subst (HaveTurns c (take i stations ++ slice_index_or stations i 0 ∷ []) was) (sym set) more)

-- a station that has its turn, or is done, stands
pub stands_by_turn : (c : CourseData) (waiting : Waiting) (s : ℕ) (o : Option Moment) → IsTurn c s o → Stands c waiting s o
stands_by_turn c waiting s (Some m) next = next
stands_by_turn c waiting s None done = inl done

-- ---- what is known at the start

pub started : (c : CourseData) (waiting : Waiting) (turns : List (Option Moment)) → IsCourse c → IsTimely c.recording c.steps
    → length turns ≡ length c.recording.setting.stations → ((s : ℕ) → s < length c.recording.setting.stations → IsTurn c s (turn_of turns s))
    → IsSearch c waiting turns
started c waiting turns course timely count each = record {
  count = count;
  course = course;
  timely = timely;
  each = λ s l. stands_by_turn c waiting s (turn_of turns s) (each s (omega (arith, l, count)));
}

-- ---- after a step

pub search_on : (c : CourseData) (step : Step) (e : Entry) → IsStep c step e → (waiting waits : Waiting) → Leaves waiting waits step.place
    → (turns turned given : List (Option Moment)) → IsSearch c waiting turns → (first : Turn) → IsFirstOf turns 0 (length turns) first
    → first.moment.entry ≡ step.place → station_of (event_of e) ≡ first.station → (t : Option Moment) → IsTurn (with_step c step) first.station t
    → turned ≡ slice_set turns first.station t → HaveTurns (with_step c step) (waiting_for waiting step.place) turned given
    → IsSearch (with_step c step) waits given
search_on c step e is waiting waits leaves turns turned given search first at entry own t turn set have = record {
  count = have.count ∙ ap length set ∙ length-set turns first.station t ∙ search.count;
  course = is.after;
  timely = timely_more c.recording c.steps step search.timely
      (subst (λ i. IsEarliest c.recording (so_far c) i) entry (earliest c waiting turns first search at));
  each = λ s l. stands s (omega (arith, l, counts));
}
  where
    counts : length given ≡ length turns
    counts = have.count ∙ ap length set ∙ length-set turns first.station t

    before : length turned ≡ length turns
    before = ap length set ∙ length-set turns first.station t

    of_both : (s : ℕ) → turn_of given s ≡ turn_of turned s → (Contains (waiting_for waiting step.place) s → ⊥) → s < length turns
        → ((s ≡ first.station) ⊎ (s ≡ first.station → ⊥)) → Stands (with_step c step) waits s (turn_of given s)
    of_both s same none l (inl here) =
        let now : turn_of given s ≡ t = same ∙ ap (λ xs. turn_of xs s) set ∙ ap (turn_of (slice_set turns first.station t)) here
        ∙ get_or-set_same turns first.station t None (omega (arith, l, here)) in
        subst (Stands (with_step c step) waits s) (sym now)
        (stands_by_turn (with_step c step) waits s t (subst (λ s. IsTurn (with_step c step) s t) (sym here) turn))
    of_both s same none l (inr other) =
        let now : turn_of given s ≡ turn_of turns s = same ∙ ap (λ xs. turn_of xs s) set ∙ get_or-set_other turns first.station s t None other in
        subst (Stands (with_step c step) waits s) (sym now)
        (⊎_elim
        (λ (stood : Stands (with_step c step) waits s (turn_of turns s)). stood)
        (λ (woken : Contains (waiting_for waiting step.place) s). absurd (none woken))
        (stands_on c step e is waiting waits leaves s (λ station. other (sym station ∙ own)) (turn_of turns s) (search.each s l)))

    stands : (s : ℕ) → s < length turns → Stands (with_step c step) waits s (turn_of given s)
    stands s l = ⊎_elim
        (λ (mine : IsTurn (with_step c step) s (turn_of given s)). stands_by_turn (with_step c step) waits s (turn_of given s) mine)
        (λ (not : (turn_of given s ≡ turn_of turned s) × (Contains (waiting_for waiting step.place) s → ⊥)).
        of_both s not.0 not.1 l (cases_eq s first.station))
        (have.each s (omega (arith, l, before)))

-- ---- where a station cannot go on

-- those that waited wait still
wait_more : (r : PlainRecording) (i station : ℕ) (cause : Cause) (old new : Waiting) → WaitsFor r i station cause old new → (q s : ℕ)
    → Contains (waiting_for old q) s → Contains (waiting_for new q) s
wait_more r i station cause old new waits q s among = by_cause (is_never_sent cause) refl
  where
    unchanged : new ≡ old → Contains (waiting_for new q) s
    unchanged same = subst (λ w. Contains (waiting_for w q) s) (sym same) among

    by_source : (o : Option ℕ) → Waits station old new o → Contains (waiting_for new q) s
    by_source None same = unchanged same
    by_source (Some k) joins =
        subst (λ (xs : List ℕ). Contains xs s) (sym (joins q))
        (Contains-append_left (waiting_for old q) (if k == q then station ∷ [] else []) s among)

    by_cause : (t : Bool) → is_never_sent cause ≡ t → Contains (waiting_for new q) s
    by_cause true never = by_source (source_of r i) (waits.unsent (never_sent cause never))
    by_cause false is = unchanged (waits.other (other_cause cause is))

-- and this one waits
it_waits : (station : ℕ) (old new : Waiting) (o : Option ℕ) → Waits station old new o → IfSome o (λ source. Contains (waiting_for new source) station)
it_waits station old new None same = tt
it_waits station old new (Some k) joins =
    let here : waiting_for new k ≡ waiting_for old k ++ station ∷ [] =
    joins k ∙ ap (λ t. waiting_for old k ++ (if t then station ∷ [] else [])) (eq-eqb k k refl) in
    subst (λ (xs : List ℕ). Contains xs station) (sym here) (Contains-append_right (waiting_for old k) (station ∷ []) station (0, omega arith, refl))

stands_more : (c : CourseData) (i station : ℕ) (cause : Cause) (old new : Waiting) → WaitsFor c.recording i station cause old new → (s : ℕ) (o : Option Moment)
    → Stands c old s o → Stands c new s o
stands_more c i station cause old new waits s (Some m) next = next
stands_more c i station cause old new waits s None (inl done) = inl done
stands_more c i station cause old new waits s None (inr up) = inr (record {
  block = up.block;
  stands = up.stands;
  waits = λ never. on (source_of c.recording up.block.entry) (up.waits never);
})
  where
    on : (o : Option ℕ) → IfSome o (λ source. Contains (waiting_for old source) s) → IfSome o (λ source. Contains (waiting_for new source) s)
    on None waited = tt
    on (Some q) waited = wait_more c.recording i station cause old new waits q s waited

pub search_barred : (c : CourseData) (waiting waits : Waiting) (turns : List (Option Moment)) (s : ℕ) (block : Block) → IsSearch c waiting turns
    → s < length turns → IsBlock c.recording (so_far c) s block → WaitsFor c.recording block.entry s block.cause waiting waits
    → IsSearch c waits (slice_set turns s None)
search_barred c waiting waits turns s block search within stands waited = record {
  count = length-set turns s None ∙ search.count;
  course = search.course;
  timely = search.timely;
  each = λ t l. of_both t (omega (arith, l, length-set turns s None)) (cases_eq t s);
}
  where
    up : IsHeldUp c waits s
    up = record {
      block = block;
      stands = stands;
      waits = λ never. it_waits s waiting waits (source_of c.recording block.entry) (waited.unsent never);
    }

    of_both : (t : ℕ) → t < length turns → ((t ≡ s) ⊎ (t ≡ s → ⊥)) → Stands c waits t (turn_of (slice_set turns s None) t)
    of_both t l (inl here) =
        let now : turn_of (slice_set turns s None) t ≡ None = ap (turn_of (slice_set turns s None)) here ∙ get_or-set_same turns s None None within in
        subst (Stands c waits t) (sym now) (subst (λ t. Stands c waits t None) (sym here) (inr up))
    of_both t l (inr other) =
        subst (Stands c waits t) (sym (get_or-set_other turns s t None None other))
        (stands_more c block.entry s block.cause waiting waits waited t (turn_of turns t) (search.each t l))
