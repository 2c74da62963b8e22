-- The order that steps name, one step after another.
use Rattle.std.proofs.Common.{◌≡◌, ℕ, ◌+◌, ◌<◌, List, [], ◌∷◌, ◌++◌, length, take, cond, Option, Some, None, true, false, refl, sym, ap, ◌∙◌, append_assoc, append-nil}
use Rattle.std.specs.Prelude.{IfSome, slice_get, slice_index_or, option_and_then, is_some, nat_eq, ◌==◌, ◌||◌, if◌then◌else◌}
use Rattle.std.specs.Option.{option_map_or, option_or, option_to_list}
use Rattle.std.specs.List.{list_any}
use Rattle.std.proofs.lemmas.List.{take_more}
use Rattle.std.proofs.lemmas.Option.{slice_get_within}
use Rattle.std.proofs.lemmas.List.Folds.{list_any-append}
use Rattle.std.proofs.Math.Bool.{or-false, or-true}
use Rattle.exercise_model.specs.Entry.{Entry}
use Rattle.exercise_model.specs.Recording.{PlainRecording}
use Rattle.exercise_model.specs.History.{Event, History, event_of, station_of, past, log_at}
use Rattle.exercise_model.specs.Cause.{sends, was_sent}
use Rattle.exercise_model.specs.Place.{log_before, own_event}
use Rattle.exercise_model.proofs.Offered.{past-snoc, past-append, length-entries-more, log_before-none, longer}
use Rattle.exercise_check.specs.declared.certificate.Step.{Step}
use Rattle.exercise_check.specs.Sequence.{entries_of_steps, sequence_of, first_sender}
use Rattle.exercise_check.specs.Goodness.{no_step}

pub entries_of_steps-append : (es : List Entry) (xs ys : List Step) → entries_of_steps es (xs ++ ys) ≡ entries_of_steps es xs ++ entries_of_steps es ys
unfolding entries_of_steps
entries_of_steps-append es [] ys = refl
entries_of_steps-append es (x ∷ xs) ys =
    ap (λ zs. option_to_list (slice_get es x.place) ++ zs) (entries_of_steps-append es xs ys) ∙ sym
    (append_assoc (option_to_list (slice_get es x.place)) (entries_of_steps es xs) (entries_of_steps es ys))

entries_of_steps-one : (es : List Entry) (x : Step) → entries_of_steps es (x ∷ []) ≡ option_to_list (slice_get es x.place)
unfolding entries_of_steps
entries_of_steps-one es x = append-nil (option_to_list (slice_get es x.place))

-- one step more
pub sequence_of-snoc : (r : PlainRecording) (steps : List Step) (step : Step)
    → sequence_of r (steps ++ step ∷ []) ≡ option_map_or (λ e. event_of e ∷ sequence_of r steps) (slice_get r.entries step.place) (sequence_of r steps)
unfolding sequence_of
sequence_of-snoc r steps step =
    ap past (entries_of_steps-append r.entries steps (step ∷ []) ∙ ap (λ zs. entries_of_steps r.entries steps ++ zs) (entries_of_steps-one r.entries step))
    ∙ elim (slice_get r.entries step.place) as (λ o. past (entries_of_steps r.entries steps ++ option_to_list o) ≡ option_map_or
    (λ e. event_of e ∷ past (entries_of_steps r.entries steps)) o (past (entries_of_steps r.entries steps))) [
      | None ↦ ap past (append-nil (entries_of_steps r.entries steps))
      | Some e ↦ past-snoc (entries_of_steps r.entries steps) e
    ]

pub sequence_of-none : (r : PlainRecording) → sequence_of r [] ≡ []
unfolding sequence_of entries_of_steps past
sequence_of-none r = refl

pub log_at-cons : (s : ℕ) (v : Event) (h : History) → log_at s (v ∷ h) ≡ (if station_of v == s then v ∷ log_at s h else log_at s h)
unfolding log_at
log_at-cons s v h = refl

-- the log of a station goes on by its own events
pub log_at-sequence_of-snoc : (r : PlainRecording) (s : ℕ) (steps : List Step) (step : Step)
    → log_at s (sequence_of r (steps ++ step ∷ [])) ≡ option_map_or (λ v. v ∷ log_at s (sequence_of r steps)) (own_event r s step.place) (log_at s (sequence_of r steps))
unfolding own_event
log_at-sequence_of-snoc r s steps step =
    ap (log_at s) (sequence_of-snoc r steps step)
    ∙ elim (slice_get r.entries step.place) as (λ o. log_at s (option_map_or (λ e. event_of e ∷ sequence_of r steps) o (sequence_of r steps)) ≡ option_map_or
    (λ v. v ∷ log_at s (sequence_of r steps)) (option_and_then (λ e. if station_of (event_of e) == s then Some (event_of e) else None) o)
    (log_at s (sequence_of r steps))) [
      | None ↦ refl
      | Some e ↦ log_at-cons s (event_of e) (sequence_of r steps)
          ∙ elim (nat_eq (station_of (event_of e)) s) as (λ b. cond b (event_of e ∷ log_at s (sequence_of r steps)) (log_at s (sequence_of r steps)) ≡ option_map_or
          (λ v. v ∷ log_at s (sequence_of r steps)) (cond b (Some (event_of e)) None) (log_at s (sequence_of r steps))) [ true ↦ refl | false ↦ refl ]
    ]

pub log_at-sequence_of-none : (r : PlainRecording) (s : ℕ) → log_at s (sequence_of r []) ≡ []
unfolding sequence_of entries_of_steps past log_at
log_at-sequence_of-none r s = refl

-- how many events of a station steps record
pub length-steps-more : (r : PlainRecording) (s : ℕ) (steps : List Step) (k : ℕ) → k < length steps
    → length (log_at s (sequence_of r (take (k + 1) steps))) ≡ length (log_at s (sequence_of r (take k steps))) +
    (if is_some (own_event r s (slice_index_or steps k no_step).place) then 1 else 0)
length-steps-more r s steps k within =
    ap (λ xs. length (log_at s (sequence_of r xs))) (take_more steps k no_step within)
    ∙ ap length (log_at-sequence_of-snoc r s (take k steps) (slice_index_or steps k no_step))
    ∙ longer (own_event r s (slice_index_or steps k no_step).place) (log_at s (sequence_of r (take k steps)))

pub length-steps-none : (r : PlainRecording) (s : ℕ) → length (log_at s (sequence_of r [])) ≡ 0
length-steps-none r s = ap length (log_at-sequence_of-none r s)

pub length-order-more : (r : PlainRecording) (s : ℕ) (steps : List Step) (step : Step)
    → length (log_at s (sequence_of r (steps ++ step ∷ []))) ≡ length (log_at s (sequence_of r steps)) +
    (if is_some (own_event r s step.place) then 1 else 0)
length-order-more r s steps step =
    ap length (log_at-sequence_of-snoc r s steps step) ∙ longer (own_event r s step.place) (log_at s (sequence_of r steps))

pub length-order-none : (r : PlainRecording) (s : ℕ) → length (log_at s (sequence_of r [])) ≡ 0
length-order-none r s = length-steps-none r s

pub length-entries-none : (r : PlainRecording) (s : ℕ) → length (log_before r s 0) ≡ 0
length-entries-none r s = ap length (log_before-none r s)

-- before the first step nobody sent anything
pub first_sender-none : (es : List Entry) (b : List ℕ) → first_sender es b [] ≡ None
unfolding first_sender
first_sender-none es b = refl

-- one step more sends a datagram first where none before does
pub first_sender-snoc : (es : List Entry) (b : List ℕ) (steps : List Step) (step : Step)
    → first_sender es b (steps ++ step ∷ []) ≡ option_or (first_sender es b steps)
    (if option_map_or (λ e. sends b (event_of e)) (slice_get es step.place) false then Some step.place else None)
unfolding first_sender
first_sender-snoc es b [] step = refl
first_sender-snoc es b (s ∷ steps) step =
    elim (option_map_or (λ e. sends b (event_of e)) (slice_get es s.place) false) as (λ t. cond t (Some s.place) (first_sender es b (steps ++ step ∷ []))
    ≡ option_or (cond t (Some s.place) (first_sender es b steps))
    (if option_map_or (λ e. sends b (event_of e)) (slice_get es step.place) false then Some step.place else None)) [
      | true ↦ refl
      | false ↦ first_sender-snoc es b steps step
    ]

-- who sent first is an entry
pub sender_within : (es : List Entry) (b : List ℕ) (steps : List Step) → IfSome (first_sender es b steps) (λ e. e < length es)
unfolding first_sender
sender_within es b [] = tt
sender_within es b (s ∷ steps) =
    elim (slice_get es s.place) as (λ o. slice_get es s.place ≡ o
    → IfSome (if option_map_or (λ e. sends b (event_of e)) o false then Some s.place else first_sender es b steps) (λ e. e < length es)) [
      | None ↦ λ _. sender_within es b steps
      | Some e ↦ λ at. elim (sends b (event_of e)) as (λ t. IfSome (if t then Some s.place else first_sender es b steps) (λ e. e < length es)) [
        | true ↦ slice_get_within es s.place e at
        | false ↦ sender_within es b steps
      ]
    ] refl

is_some-first : (es : List Entry) (b : List ℕ) (step : Step) (o : Option ℕ)
    → is_some (if option_map_or (λ e. sends b (event_of e)) (slice_get es step.place) false then Some step.place else o) ≡
    (is_some o || list_any (sends b) (past (option_to_list (slice_get es step.place))))
unfolding past
is_some-first es b step o =
    elim (slice_get es step.place) as (λ m. is_some (if option_map_or (λ e. sends b (event_of e)) m false then Some step.place else o) ≡
    (is_some o || list_any (sends b) (past (option_to_list m)))) [
      | None ↦ sym (or-false (is_some o))
      | Some e ↦ elim (sends b (event_of e)) as (λ t. is_some (if t then Some step.place else o) ≡ (is_some o || (t || false))) [
        | true ↦ sym
            (or-true (is_some o))
        | false ↦ sym (or-false (is_some o))
      ]
    ]

sender_along : (es : List Entry) (b : List ℕ) (steps : List Step) → is_some (first_sender es b steps) ≡ list_any (sends b) (past (entries_of_steps es steps))
unfolding first_sender entries_of_steps past
sender_along es b [] = refl
sender_along es b (step ∷ steps) =
    is_some-first es b step (first_sender es b steps)
    ∙ ap (λ t. t || list_any (sends b) (past (option_to_list (slice_get es step.place)))) (sender_along es b steps)
    ∙ sym (list_any-append (sends b) (past (entries_of_steps es steps)) (past (option_to_list (slice_get es step.place))))
    ∙ ap (list_any (sends b)) (sym (past-append (option_to_list (slice_get es step.place)) (entries_of_steps es steps)))

-- there is a first sender where the bytes were sent
pub is_some-first_sender : (r : PlainRecording) (b : List ℕ) (steps : List Step)
    → is_some (first_sender r.entries b steps) ≡ was_sent b (sequence_of r steps)
unfolding was_sent sequence_of
is_some-first_sender r b steps = sender_along r.entries b steps

pub ruleset sequence_steps = (length-steps-more, length-steps-none, length-entries-more, length-entries-none)
