-- Walks over the entries of one station leave out nothing that could pass, and nothing that changes a state.
use Rattle.std.proofs.Common.{◌≡◌, ⊎_elim, ℕ, zero, suc, ◌+◌, ◌-◌, ◌<◌, ◌≤◌, List, ◌∷◌, length, cond, Bool, Some, None, true, false, refl, sym, ap, ◌∙◌, subst, arith}
use Rattle.std.specs.Prelude.{slice_get, slice_index_or, nat_eq, ◌==◌, option_and_then, if◌then◌else◌, IfSome}
use Rattle.std.specs.Option.{option_map_or}
use Rattle.std.proofs.Math.Numerals.{add-one}
use Rattle.std.proofs.lemmas.Bool.{cases_lt, eq-eqb, ne_eqb, false≢true}
use Rattle.std.proofs.lemmas.Option.{slice_get_past}
use Rattle.exercise_model.specs.Entry.{Entry}
use Rattle.exercise_model.specs.Recording.{PlainRecording}
use Rattle.exercise_model.specs.Station.{is_entity}
use Rattle.exercise_model.specs.History.{event_of, station_of, station_at}
use Rattle.exercise_model.specs.State.{entity_state, state_after}
use Rattle.exercise_model.specs.Place.{event_at, own_event, log_before, first_below}
use Rattle.exercise_model.proofs.Offered.{log_before-more}
use Rattle.exercise_findings.specs.Column.{IsColumn}
use Rattle.exercise_check.proofs.Offered.{replaced}
use Rattle.exercise_findings.specs.State.{state_before}
use Rattle.exercise_conflict.specs.declared.own.StationChains.{StationChains}
use Rattle.exercise_conflict.specs.Own.{LeavesOutNone, IsFollowerFrom, AreOwnFrom}
use Rattle.exercise_conflict.specs.Since.{last_change_entry}
use Rattle.exercise_conflict.proofs.Entities.{since_still}
use Rattle.exercise_conflict.proofs.Steps.{first_still}

-- ---- how they are written down

-- an entry of another station is none of this one
not_own : (r : PlainRecording) (t i : ℕ) (e : Entry) → slice_get r.entries i ≡ Some e → nat_eq t (station_of (event_of e)) ≡ false → own_event r t i ≡ None
unfolding own_event
not_own r t i e at other =
    ap (option_and_then (λ x. event_at t (event_of x))) at
    ∙ ap (λ b. cond b (Some (event_of e)) None) (ne_eqb _ _ (λ same. absurd (false≢true (sym other ∙ eq-eqb _ _ (sym same)))))

no_more : (r : PlainRecording) (s i : ℕ) → length r.entries ≤ i → own_event r s i ≡ None
unfolding own_event
no_more r s i past = ap (option_and_then (λ x. event_at s (event_of x))) (slice_get_past r.entries i past)

-- nothing is left out past the last entry
pub none_past : (r : PlainRecording) (s n m : ℕ) → length r.entries ≤ n → n ≤ m → LeavesOutNone r s n m
none_past r s n m past on = record { on = on; none = λ i up down. no_more r s i (omega (arith, past, up)) }

one_back : (r : PlainRecording) (s i m : ℕ) → own_event r s i ≡ None → LeavesOutNone r s (i + 1) m → LeavesOutNone r s i m
one_back r s i m none leaves = record {
  on = omega (arith, leaves.on);
  none = λ j up down. ⊎_elim
      (λ (more : i < j). leaves.none j (omega (arith, more)) down)
      (λ (less : j ≤ i). let same : j ≡ i = omega (arith, up, less) in ap (own_event r s) same ∙ none)
      (cases_lt i j);
}

-- one entry back
pub gone_back : (r : PlainRecording) (i : ℕ) (e : Entry) (s follower : ℕ) (old : StationChains) (followers first : List ℕ) → slice_get r.entries i ≡ Some e
    → s ≡ station_of (event_of e) → s < length r.setting.stations
    → follower ≡ slice_index_or old.first.items s 0 → length followers ≡ length old.followers.items
    → ((j : ℕ) → slice_index_or followers j 0 ≡ (if j == i then follower else slice_index_or old.followers.items j 0))
    → length first ≡ length old.first.items
    → ((j : ℕ) → slice_index_or first j 0 ≡ (if j == s then i else slice_index_or old.first.items j 0))
    → AreOwnFrom r (i + 1) old
    → IsColumn 0 (IsFollowerFrom r i) (length r.entries) followers × IsColumn 0 (λ t m. LeavesOutNone r t i m) (length r.setting.stations) first
gone_back r i e s follower old followers first at here below is count_f each_f count_n each_n from = (
  replaced (IsFollowerFrom r (i + 1)) (IsFollowerFrom r i) (length r.entries) i follower old.followers.items followers count_f each_f
      (λ _. subst (λ o. IfSome o (λ e. LeavesOutNone r (station_of (event_of e)) (i + 1) follower)) (sym at)
      (subst (λ t. LeavesOutNone r t (i + 1) follower) here (subst (LeavesOutNone r s (i + 1)) (sym is) (from.first.each s below))))
      (λ j other follows above. follows (next_above j other above))
      from.followers,
  replaced (λ t m. LeavesOutNone r t (i + 1) m) (λ t m. LeavesOutNone r t i m) (length r.setting.stations) s i old.first.items first count_n each_n
      (record { on = omega arith; none = λ j up down. absurd (omega (arith, up, down)) })
      (λ t other leaves. one_back r t i (slice_index_or old.first.items t 0) (not_own r t i e at (subst (λ u. nat_eq t u ≡ false) here other)) leaves)
      from.first,
)
  where
    next_above : (j : ℕ) → nat_eq j i ≡ false → i ≤ j → i + 1 ≤ j
    next_above j other above = ⊎_elim
        (λ (less : i < j). omega (arith, less))
        (λ (more : j ≤ i). let same : j ≡ i = omega arith in absurd (false≢true (sym other ∙ eq-eqb j i same)))
        (cases_lt i j)

-- what follows an entry at its station
pub follows : (r : PlainRecording) (own : StationChains) (s j : ℕ) (e : Entry) → AreOwnFrom r 0 own → j < length r.entries → slice_get r.entries j ≡ Some e
    → station_of (event_of e) ≡ s → LeavesOutNone r s (j + 1) (slice_index_or own.followers.items j 0)
follows r own s j e from within at here =
    let there = from.followers.each j within (omega arith) in
    subst (λ t. LeavesOutNone r t (j + 1) (slice_index_or own.followers.items j 0)) here
    (subst (λ o. IfSome o (λ e. LeavesOutNone r (station_of (event_of e)) (j + 1) (slice_index_or own.followers.items j 0))) at there)

-- nothing is left out where nothing is passed over, and nothing before a place that is no later
pub none_between : (r : PlainRecording) (s n : ℕ) → LeavesOutNone r s n n
none_between r s n = record { on = omega arith; none = λ i up down. absurd (omega (arith, up, down)) }

pub none_before : (r : PlainRecording) (s n m k : ℕ) → LeavesOutNone r s n m → n ≤ k → k ≤ m → LeavesOutNone r s n k
none_before r s n m k leaves on less = record { on = on; none = λ i up down. leaves.none i up (omega (arith, down, less)) }

-- ---- what is asked of each

skipped : (f : ℕ → Bool) (n k : ℕ) → first_below f n ≡ None → ((i : ℕ) → n ≤ i → i < k + n → f i ≡ false) → first_below f (k + n) ≡ None
skipped f n zero none off = let same : 0 + n ≡ n = omega arith in ap (first_below f) same ∙ none
skipped f n (suc k) none off =
    let next : suc k + n ≡ k + n + 1 = omega arith in
    ap (first_below f) next
    ∙ first_still f (k + n) (skipped f n k none (λ i up down. off i up (omega (arith, down)))) (off (k + n) (omega arith) (omega arith))

-- none passes before the place that a walk goes on to
pub none_skipped : (r : PlainRecording) (s : ℕ) (f : ℕ → Bool) (n m : ℕ) → ((i : ℕ) → own_event r s i ≡ None → f i ≡ false) → LeavesOutNone r s n m
    → first_below f n ≡ None → first_below f m ≡ None
none_skipped r s f n m own leaves none =
    let from : m - n + n ≡ m = omega (arith, leaves.on) in
    ap (first_below f) (sym from) ∙ skipped f n (m - n) none (λ i up down. own i (leaves.none i up (omega (arith, down, from))))

-- ---- what state an entity has

quiet : (r : PlainRecording) (s n k : ℕ) → ((i : ℕ) → n ≤ i → i < k + n → own_event r s i ≡ None) → log_before r s (k + n) ≡ log_before r s n
quiet r s n zero none = let same : 0 + n ≡ n = omega arith in ap (log_before r s) same
quiet r s n (suc k) none =
    let next : suc k + n ≡ suc (k + n) = omega arith in
    ap (log_before r s) next
    ∙ log_before-more r s (k + n)
    ∙ ap (λ o. option_map_or (λ v. v ∷ log_before r s (k + n)) o (log_before r s (k + n))) (none (k + n) (omega arith) (omega arith))
    ∙ quiet r s n k (λ i up down. none i up (omega (arith, down)))

still : (r : PlainRecording) (s e n k : ℕ) → ((i : ℕ) → n ≤ i → i < k + n → own_event r s i ≡ None) → last_change_entry r s e (k + n) ≡ last_change_entry r s e n
still r s e n zero none = let same : 0 + n ≡ n = omega arith in ap (last_change_entry r s e) same
still r s e n (suc k) none =
    let next : suc k + n ≡ suc (k + n) = omega arith in
    ap (last_change_entry r s e) next
    ∙ since_still r s e (k + n) (one_state (k + n) (none (k + n) (omega arith) (omega arith)))
    ∙ still r s e n k (λ i up down. none i up (omega (arith, down)))
  where
    one_state : (m : ℕ) → own_event r s m ≡ None → state_before r s e m ≡ state_before r s e (suc m)
    one_state m here = ap (λ l. state_after r.setting.exercise (station_at r s) l e)
        (sym (log_before-more r s m ∙ ap (λ o. option_map_or (λ v. v ∷ log_before r s m) o (log_before r s m)) here))

-- the state stays as it was, and so does what made it
pub state_skipped : (r : PlainRecording) (s e n m : ℕ) → LeavesOutNone r s n m
    → entity_state r.setting.exercise (station_at r s) (log_before r s n) e ≡ entity_state r.setting.exercise (station_at r s) (log_before r s m) e
state_skipped r s e n m leaves =
    let from : m - n + n ≡ m = omega (arith, leaves.on) in
    ap (λ l. entity_state r.setting.exercise (station_at r s) l e)
    (sym (quiet r s n (m - n) (λ i up down. leaves.none i up (omega (arith, down, from)))) ∙ ap (log_before r s) from)

pub since_skipped : (r : PlainRecording) (s e n m : ℕ) → LeavesOutNone r s n m → last_change_entry r s e n ≡ last_change_entry r s e m
since_skipped r s e n m leaves =
    let from : m - n + n ≡ m = omega (arith, leaves.on) in
    sym (still r s e n (m - n) (λ i up down. leaves.none i up (omega (arith, down, from)))) ∙ ap (last_change_entry r s e) from
