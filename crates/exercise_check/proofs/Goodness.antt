-- What good steps name.
use Rattle.std.proofs.Common.{◌≡◌, ℕ, zero, suc, ◌+◌, ◌<◌, ◌≤◌, List, [], ◌∷◌, ◌++◌, length, take, cond, Some, None, true, false, refl, sym, ap, ◌∙◌, subst, ⊎_elim, arith, append-nil}
use Rattle.std.specs.Prelude.{slice_get, slice_index_or, option_and_then, nat_eq, ◌==◌, if◌then◌else◌}
use Rattle.std.specs.Option.{option_map_or, option_or}
use Rattle.std.proofs.Math.Numerals.{add-one}
use Rattle.std.proofs.Math.Seq.{take-length}
use Rattle.std.proofs.lemmas.List.{take_more, length_push, take-append-le, get_or_append_left, take_at, get_or_at}
use Rattle.std.proofs.lemmas.List.Elements.{All-from_get_or}
use Rattle.std.proofs.lemmas.Bool.{eqb-true, eq-eqb, cases_lt}
use Rattle.std.proofs.lemmas.Option.{slice_get_within}
use Rattle.exercise_model.specs.declared.cause.Cause.TheVariants.{NoSuchRecord, OutOfOrder, BadLink}
use Rattle.exercise_model.specs.Entry.{Entry}
use Rattle.exercise_model.specs.Recording.{PlainRecording}
use Rattle.exercise_model.specs.History.{Event, History, event_of, station_of, past, log_at, log_of}
use Rattle.exercise_model.specs.Cause.{cause_of}
use Rattle.exercise_model.specs.Place.{log_before, own_event}
use Rattle.exercise_model.specs.Run.{IsBeginning}
use Rattle.exercise_model.proofs.Offered.{same_beginnings, log_before-beginning, log_before-next}
use Rattle.exercise_check.specs.declared.certificate.Step.{Step}
use Rattle.exercise_check.specs.Sequence.{sequence_of, is_next, link_of, link_number}
use Rattle.exercise_check.specs.Goodness.{event_cause, step_cause, IsGoodStep, no_step, GoodBelow, ArePlaced, IsReady}
use Rattle.exercise_check.proofs.Sequences.{log_at-sequence_of-snoc, log_at-sequence_of-none}

-- the parts of a good step
good_event : (r : PlainRecording) (before : List Step) (step : Step) (e : Entry) → slice_get r.entries step.place ≡ Some e
    → event_cause r before step (event_of e) ≡ None → IsGoodStep r before step e
unfolding is_next
good_event r before step e at =
    let v = event_of e in
    elim (nat_eq (length (log_at (station_of v) (sequence_of r before))) (length (log_before r (station_of v) step.place))) as (λ t.
    nat_eq (length (log_at (station_of v) (sequence_of r before))) (length (log_before r (station_of v) step.place)) ≡ t
    → cond t (option_or (cause_of r.setting (sequence_of r before) v) (cond (nat_eq step.link (link_number (link_of r before step.place v))) None (Some BadLink)))
    (Some OutOfOrder) ≡ None
    → IsGoodStep r before step e) [
      | false ↦ λ _ h. absurd (cc)
      | true ↦ λ next. elim (cause_of r.setting (sequence_of r before) v) as
          (λ o. cause_of r.setting (sequence_of r before) v ≡ o → option_or o
          (cond (nat_eq step.link (link_number (link_of r before step.place v))) None (Some BadLink)) ≡ None → IsGoodStep r before step e) [
            | Some cause ↦ λ _ h. absurd (cc)
            | None ↦ λ allowed. elim (nat_eq step.link (link_number (link_of r before step.place v))) as
                (λ t. nat_eq step.link (link_number (link_of r before step.place v)) ≡ t → cond t None (Some BadLink) ≡ None → IsGoodStep r before step e) [
                  | false ↦ λ _ h. absurd (cc)
                  | true ↦ λ link _. record { at = at; next = eqb-true _ _ next; allowed = allowed; link = eqb-true _ _ link }
                ] refl
          ] refl
    ] refl

pub good_step : (r : PlainRecording) (before : List Step) (step : Step) → step_cause r before step ≡ None → (e : Entry) × IsGoodStep r before step e
unfolding step_cause
good_step r before step =
    elim (slice_get r.entries step.place) as (λ o. slice_get r.entries step.place ≡ o → option_map_or (λ e. event_cause r before step (event_of e)) o
    (Some NoSuchRecord) ≡ None → (e : Entry) × IsGoodStep r before step e) [
      | None ↦ λ _ h. absurd (cc)
      | Some e ↦ λ at h. (e, good_event r before step e at h)
    ] refl

own_station : (r : PlainRecording) (s i : ℕ) (v : Event) (e : Entry) → own_event r s i ≡ Some v → slice_get r.entries i ≡ Some e
    → station_of (event_of e) ≡ s
unfolding own_event
own_station r s i v e own at =
    let here : option_and_then (λ e. if station_of (event_of e) == s then Some (event_of e) else None) (Some e) ≡ Some v = ap
    (option_and_then (λ e. if station_of (event_of e) == s then Some (event_of e) else None)) (sym at) ∙ own in
    elim (nat_eq (station_of (event_of e)) s) as (λ t. nat_eq (station_of (event_of e)) s ≡ t → cond t (Some (event_of e)) None ≡ Some v → station_of
    (event_of e) ≡ s) [
      | true ↦ λ same _. eqb-true _ _ same
      | false ↦ λ _ h. absurd (cc)
    ] refl here

-- what good steps record at each station is a beginning of its log
pub steps_cover : (r : PlainRecording) (steps : List Step) (n : ℕ) → n ≤ length steps → GoodBelow r steps n → (s : ℕ)
    → IsBeginning (log_at s (sequence_of r (take n steps))) (log_of r s)
unfolding log_of
steps_cover r steps zero within good s =
    (log_at s (past r.entries), ap (λ h. log_at s (past r.entries) ++ h) (log_at-sequence_of-none r s) ∙ append-nil (log_of r s))
steps_cover r steps (suc n) within good s =
    let before : List Step = take n steps in
    let step : Step = slice_index_or steps n no_step in
    let here = good_step r before step (good n (omega arith)) in
    let cover = steps_cover r steps n (omega arith) (λ k l. good k (omega arith)) s in
    let whole : History = log_at s (past r.entries) in
    let next : (v : Event) → own_event r s step.place ≡ Some v → IsBeginning (v ∷ log_at s (sequence_of r before)) whole =
    λ v own.
    let at_s = own_station r s step.place v here.0 own here.1.at in
    let lengths : length (log_at s (sequence_of r before)) ≡ length (log_before r s step.place) = subst
    (λ t. length (log_at t (sequence_of r before)) ≡ length (log_before r t step.place)) at_s here.1.next in
    subst (λ h. IsBeginning (v ∷ h) whole) (sym (same_beginnings _ _ whole cover (log_before-beginning r s step.place) lengths))
    (log_before-next r s step.place v own) in
    let more : IsBeginning (log_at s (sequence_of r (before ++ step ∷ []))) whole =
    subst (λ h. IsBeginning h whole) (sym (log_at-sequence_of-snoc r s before step))
    (elim (own_event r s step.place) as
    (λ o. own_event r s step.place ≡ o → IsBeginning (option_map_or (λ v. v ∷ log_at s (sequence_of r before)) o (log_at s (sequence_of r before))) whole) [
      | None ↦ λ _. cover
      | Some v ↦ λ own. next v own
    ] refl) in
    subst (λ xs. IsBeginning (log_at s (sequence_of r xs)) whole) (sym (ap (λ k. take k steps) (sym (add-one n)) ∙ take_more steps n no_step (omega arith))) more

pub are_placed : (r : PlainRecording) (steps : List Step) → GoodBelow r steps (length steps) → ArePlaced r steps
are_placed r steps good =
    All-from_get_or (λ (step : Step). step.place < length r.entries) steps no_step
    (λ i l. slice_get_within r.entries _ _ (good_step r (take i steps) (slice_index_or steps i no_step) (good i l)).1.at)

-- where the next entry of a station is looked at, what is order_of there is what stands before the entry
pub is_ready : (r : PlainRecording) (before : List Step) (place : ℕ) (v : Event) → GoodBelow r before (length before)
    → length (log_at (station_of v) (sequence_of r before)) ≡ length (log_before r (station_of v) place) → IsReady r before place v
unfolding log_of
is_ready r before place v good lengths =
    let cover = subst (λ xs. IsBeginning (log_at (station_of v) (sequence_of r xs)) (log_at (station_of v) (past r.entries))) (take_whole before)
    (steps_cover r before (length before) (omega arith) good (station_of v)) in
    same_beginnings _ _ _ cover (log_before-beginning r (station_of v) place) lengths
  where
    take_whole : (xs : List Step) → take (length xs) xs ≡ xs
    take_whole [] = refl
    take_whole (x ∷ xs) = ap (λ ys. x ∷ ys) (take_whole xs)

-- a good step has no fault
pub cause_none : (r : PlainRecording) (before : List Step) (step : Step) (e : Entry) → IsGoodStep r before step e → step_cause r before step ≡ None
unfolding step_cause is_next
cause_none r before step e good =
    ap (λ o. option_map_or (λ e. event_cause r before step (event_of e)) o (Some NoSuchRecord)) good.at
    ∙ ap (λ b. cond b
    (option_or (cause_of r.setting (sequence_of r before) (event_of e))
    (cond (nat_eq step.link (link_number (link_of r before step.place (event_of e)))) None (Some BadLink))) (Some OutOfOrder)) (eq-eqb _ _ good.next)
    ∙ ap (λ o. option_or o (cond (nat_eq step.link (link_number (link_of r before step.place (event_of e)))) None (Some BadLink))) good.allowed
    ∙ ap (λ b. cond b None (Some BadLink)) (eq-eqb _ _ good.link)

-- good steps and one more
pub good_push : (r : PlainRecording) (steps : List Step) (step : Step) → GoodBelow r steps (length steps) → step_cause r steps step ≡ None
    → GoodBelow r (steps ++ step ∷ []) (length (steps ++ step ∷ []))
good_push r steps step good last k l =
    let l' : k < length steps + 1 = subst (λ n. k < n) (length_push steps step) l in
    ⊎_elim
    (λ (below : k < length steps).
    ap (λ xs. step_cause r xs (slice_index_or (steps ++ step ∷ []) k no_step)) (take-append-le k steps (step ∷ []) (omega arith))
    ∙ ap (step_cause r (take k steps)) (get_or_append_left steps (step ∷ []) no_step k below) ∙ good k below)
    (λ (at : length steps ≤ k).
    let here : length steps ≡ k = omega arith in
    ap (λ xs. step_cause r xs (slice_index_or (steps ++ step ∷ []) k no_step)) (take_at steps (step ∷ []) k here)
    ∙ ap (step_cause r steps) (get_or_at steps step [] no_step k here) ∙ last)
    (cases_lt k (length steps))

-- what good steps record at each station is a beginning of its log
pub good_logs : (r : PlainRecording) (steps : List Step) → GoodBelow r steps (length steps) → (s : ℕ)
    → IsBeginning (log_at s (sequence_of r steps)) (log_of r s)
good_logs r steps good s =
    subst (λ xs. IsBeginning (log_at s (sequence_of r xs)) (log_of r s)) (take-length steps) (steps_cover r steps (length steps) (omega arith) good s)
