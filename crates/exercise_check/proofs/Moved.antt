-- The next entry of each station: found from the last entry back, and moved on with each step.
use Rattle.std.proofs.Common.{◌≡◌, ℕ, ◌+◌, ◌<◌, ◌≤◌, List, [], ◌∷◌, ◌++◌, length, cond, Option, Some, None, true, false, refl, sym, ap, ◌∙◌, ⊎_elim, subst, arith}
use Rattle.std.specs.Prelude.{is_some, slice_get, slice_index_or, nat_eq, ◌==◌, if◌then◌else◌, IfSome, IfNone}
use Rattle.std.proofs.lemmas.Bool.{cases_lt, eqb-true, eq-eqb, false≢true}
use Rattle.exercise_model.specs.Entry.{Entry}
use Rattle.exercise_model.specs.Recording.{PlainRecording, IsRecording}
use Rattle.exercise_model.specs.History.{event_of, station_of, past, log_at, log_of}
use Rattle.exercise_model.specs.Place.{log_before, own_event}
use Rattle.exercise_model.proofs.Offered.{length-entries-more, log_before-all, no_log, past_within}
use Rattle.exercise_check.specs.declared.certificate.Step.{Step}
use Rattle.exercise_check.specs.declared.cursors.Cursors.{Cursors}
use Rattle.exercise_check.specs.Sequence.{sequence_of}
use Rattle.exercise_findings.specs.Column.{IsColumn}
use Rattle.exercise_check.specs.Cursors.{Represents, IsNextFrom, IsNextAfter, IsFollower, IsFollowerFrom, AreCursorsFrom, AreCursors}
use Rattle.exercise_check.proofs.Nexts.{own_here}
use Rattle.exercise_check.proofs.Courses.{at_entry, from_entry}
use Rattle.exercise_check.proofs.Sequences.{length-entries-none, length-order-more, length-order-none}

-- a column in which one number was replaced
pub replaced : (P Q : ℕ → ℕ → Type 0) (n at number : ℕ) (old new : List ℕ) → length new ≡ length old
    → ((j : ℕ) → slice_index_or new j 0 ≡ (if j == at then number else slice_index_or old j 0))
    → Q at number → ((j : ℕ) → nat_eq j at ≡ false → P j (slice_index_or old j 0) → Q j (slice_index_or old j 0))
    → IsColumn 0 P n old → IsColumn 0 Q n new
replaced P Q n at number old new count each here others column = record {
  count = count ∙ column.count;
  each = λ j l. subst (Q j) (sym (each j)) (elim (nat_eq j at) as (λ b. nat_eq j at ≡ b → Q j (cond b number (slice_index_or old j 0))) [
    | true ↦ λ same. subst (λ m. Q m number) (sym (eqb-true _ _ same)) here
    | false ↦ λ other. others j other (column.each j l)
  ] refl);
}

-- how many entries of a station stand before the one after entry i
before_more : (r : PlainRecording) (s i : ℕ) (e : Entry) → slice_get r.entries i ≡ Some e
    → length (log_before r s (i + 1)) ≡ length (log_before r s i) + (if s == station_of (event_of e) then 1 else 0)
before_more r s i e at = length-entries-more r s i ∙ ap (λ b. length (log_before r s i) + (if b then 1 else 0)) (own_here r s i e at)

-- how many of a station were taken after one step more
pub taken_more : (r : PlainRecording) (s : ℕ) (steps : List Step) (step : Step) (e : Entry) → slice_get r.entries step.place ≡ Some e
    → length (log_at s (sequence_of r (steps ++ step ∷ []))) ≡ length (log_at s (sequence_of r steps)) + (if s == station_of (event_of e) then 1 else 0)
taken_more r s steps step e at =
    length-order-more r s steps step ∙ ap (λ b. length (log_at s (sequence_of r steps)) + (if b then 1 else 0)) (own_here r s step.place e at)

-- one more where it is the station's own, and as many where it is not
one_more : (n s t : ℕ) → s ≡ t → n + (if s == t then 1 else 0) ≡ n + 1
one_more n s t same = ap (λ b. n + (if b then 1 else 0)) (eq-eqb s t same)

no_more : (n s t : ℕ) → nat_eq s t ≡ false → n + (if s == t then 1 else 0) ≡ n
no_more n s t other = rw other (omega arith)

-- the first of its station from entry i on is itself
stands_here : (r : PlainRecording) (s i : ℕ) (e : Entry) → i < length r.entries → slice_get r.entries i ≡ Some e → s ≡ station_of (event_of e)
    → IsNextFrom r i s i
stands_here r s i e within at here = record {
  own = λ _. own_here r s i e at ∙ eq-eqb s _ here;
  rank = λ _. refl;
  none = λ past. absurd (omega (arith, within, past));
}

-- one entry back
pub gone_back : (r : PlainRecording) (i : ℕ) (e : Entry) (s follower : ℕ) (old : Cursors) (followers next : List ℕ) → i < length r.entries
    → slice_get r.entries i ≡ Some e → s ≡ station_of (event_of e) → s < length r.setting.stations
    → follower ≡ slice_index_or old.next.items s 0 → length followers ≡ length old.followers.items
    → ((j : ℕ) → slice_index_or followers j 0 ≡ (if j == i then follower else slice_index_or old.followers.items j 0))
    → length next ≡ length old.next.items
    → ((j : ℕ) → slice_index_or next j 0 ≡ (if j == s then i else slice_index_or old.next.items j 0))
    → AreCursorsFrom r (i + 1) old
    → IsColumn 0 (IsFollowerFrom r i) (length r.entries) followers × IsColumn 0 (IsNextFrom r i) (length r.setting.stations) next
gone_back r i e s follower old followers next within at here below is count_f each_f count_n each_n from = (
  replaced (IsFollowerFrom r (i + 1)) (IsFollowerFrom r i) (length r.entries) i follower old.followers.items followers count_f each_f
      (λ _. at_entry _ e (λ e. IsNextFrom r (i + 1) (station_of (event_of e)) follower) at
      (subst (λ t. IsNextFrom r (i + 1) t follower) here (subst (IsNextFrom r (i + 1) s) (sym is) (from.next.each s below))))
      (λ j other follows above. follows (next_above j other above))
      from.followers,
  replaced (IsNextFrom r (i + 1)) (IsNextFrom r i) (length r.setting.stations) s i old.next.items next count_n each_n
      (stands_here r s i e within at here)
      (λ j other. subst (λ k. Represents r j k (slice_index_or old.next.items j 0))
      (before_more r j i e at ∙ no_more _ j _ (subst (λ t. nat_eq j t ≡ false) here other)))
      from.next,
)
  where
    next_above : (j : ℕ) → nat_eq j i ≡ false → i ≤ j → i + 1 ≤ j
    next_above j other above = ⊎_elim
        (λ (less : i < j). omega (arith, less))
        (λ (more : j ≤ i). let same : j ≡ i = omega arith in absurd (false≢true (sym other ∙ eq-eqb j i same)))
        (cases_lt i j)

-- from the first entry on, where no step was taken
pub none_taken : (r : PlainRecording) (c : Cursors) → AreCursorsFrom r 0 c → AreCursors r [] c
none_taken r c from = record {
  followers = record { count = from.followers.count; each = λ j l. from.followers.each j l (omega arith) };
  next = record {
    count = from.next.count;
    each = λ s l. subst (λ k. Represents r s k (slice_index_or c.next.items s 0)) (length-entries-none r s ∙ sym (length-order-none r s)) (from.next.each s l);
  };
}

-- one step more
pub passed : (r : PlainRecording) (steps : List Step) (step : Step) (e : Entry) (s follower : ℕ) (old new : Cursors) → step.place < length r.entries
    → slice_get r.entries step.place ≡ Some e → s ≡ station_of (event_of e)
    → IfSome (slice_get r.entries step.place) (λ e. length (log_at (station_of (event_of e)) (sequence_of r steps)) ≡
    length (log_before r (station_of (event_of e)) step.place))
    → follower ≡ slice_index_or old.followers.items step.place 0 → new.followers ≡ old.followers → length new.next.items ≡ length old.next.items
    → ((j : ℕ) → slice_index_or new.next.items j 0 ≡ (if j == s then follower else slice_index_or old.next.items j 0))
    → AreCursors r steps old → AreCursors r (steps ++ step ∷ []) new
passed r steps step e s follower old new within at here ready is same count each cursors =
    let follows = from_entry _ e (λ e. IsNextFrom r (step.place + 1) (station_of (event_of e)) follower) at
    (subst (IsFollower r step.place) (sym is) (cursors.followers.each step.place within)) in
    let lengths = from_entry _ e (λ e. length (log_at (station_of (event_of e)) (sequence_of r steps)) ≡
    length (log_before r (station_of (event_of e)) step.place)) at ready in
    let t = station_of (event_of e) in
    let one = before_more r t step.place e at ∙ one_more _ t t refl ∙ ap (λ n. n + 1) (sym lengths) ∙ sym (one_more _ t t refl)
    ∙ sym (taken_more r t steps step e at) in
    record {
      followers = subst (λ v. IsColumn 0 (IsFollower r) (length r.entries) v.items) (sym same) cursors.followers;
      next = replaced (IsNextAfter r steps) (IsNextAfter r (steps ++ step ∷ [])) (length r.setting.stations) s _ old.next.items new.next.items count each
          (subst (λ u. IsNextAfter r (steps ++ step ∷ []) u follower) (sym here) (subst (λ k. Represents r t k follower) one follows))
          (λ j other. subst (λ k. Represents r j k (slice_index_or old.next.items j 0))
          (sym (taken_more r j steps step e at ∙ no_more _ j _ (subst (λ t. nat_eq j t ≡ false) here other))))
          cursors.next;
    }

-- what a look at the cursor of a station finds: its next entry, or that it has none
pub record Finds (r : PlainRecording) (steps : List Step) (s : ℕ) (found : Option ℕ) : Type 0 where
  pub own : IfSome found (λ i. is_some (own_event r s i) ≡ true)
  pub place : IfSome found (λ i. length (log_before r s i) ≡ length (log_at s (sequence_of r steps)))
  pub none : IfNone found (length (log_before r s (length r.entries)) ≤ length (log_at s (sequence_of r steps)))

pub finds : (r : PlainRecording) (steps : List Step) (s : ℕ) (c : Cursors) (found : Option ℕ) → IsRecording r → AreCursors r steps c
    → IfSome found (λ i. i < length r.entries) → IfSome found (λ i. s < length c.next.items)
    → IfSome found (λ i. i ≡ slice_index_or c.next.items s 0)
    → IfNone found (s < length c.next.items → length r.entries ≤ slice_index_or c.next.items s 0) → Finds r steps s found
unfolding log_of
finds r steps s c (Some i) limits cursors within below is none =
    let stands = subst (λ x. IsNextAfter r steps s x) (sym is) (cursors.next.each s (omega (arith, below, cursors.next.count))) in
    record { own = stands.own within; place = stands.rank within; none = tt }
finds r steps s c None limits cursors within below is none = record {
  own = tt;
  place = tt;
  none = ⊎_elim
      (λ (l : s < length r.setting.stations). (cursors.next.each s l).none (none (omega (arith, l, cursors.next.count))))
      (λ (above : length r.setting.stations ≤ s).
      omega (arith, ap length (log_before-all r s), no_log (length r.setting.stations) (past r.entries) s (past_within r limits) above))
      (cases_lt s (length r.setting.stations));
}
