-- The sequence of time is one sequence.
use Rattle.std.proofs.Common.{◌≡◌, ⊎_elim, inl, inr, ℕ, zero, suc, ◌<◌, ◌≤◌, List, [], ◌∷◌, ◌++◌, length, take, Some, refl, sym, ap, ◌∙◌, subst, arith}
use Rattle.std.specs.Prelude.{slice_get, slice_index_or, is_some}
use Rattle.std.specs.Option.{option_map_or}
use Rattle.std.proofs.Math.Numerals.{add-one}
use Rattle.std.proofs.lemmas.Bool.{cases_lt, cases_order}
use Rattle.std.proofs.lemmas.List.{take_more, take_all}
use Rattle.std.proofs.lemmas.Option.{same_Some, slice_get_within}
use Rattle.exercise_model.specs.Entry.{Entry}
use Rattle.exercise_model.specs.Recording.{PlainRecording}
use Rattle.exercise_model.specs.History.{Event, History, event_of, station_of, past}
use Rattle.exercise_model.specs.Cause.{IsAllowed}
use Rattle.exercise_model.specs.Place.{log_before, own_event}
use Rattle.exercise_model.specs.Run.{IsRun}
use Rattle.exercise_model.proofs.Offered.{passes}
use Rattle.exercise_check.specs.declared.certificate.Step.{Step}
use Rattle.exercise_check.specs.Sequence.{sequence_of, link_of, link_number}
use Rattle.exercise_check.specs.Goodness.{no_step, IsGoodStep, GoodBelow, IsGood}
use Rattle.exercise_check.proofs.Offered.{entry_within, good_step, own_entry, sequence_of-none, sequence_of-snoc}
use Rattle.exercise_audit.specs.Next.{IsNextEntry}
use Rattle.exercise_model.specs.Stamps.{stamp_of}
use Rattle.exercise_audit.specs.Time.{MayHappen, IsEarliest, IsTimely, StampsNeverFall, IsAsWritten}
use Rattle.exercise_audit.specs.Written.{written_below, IsRunAsWritten}
use Rattle.exercise_audit.proofs.Held.{own_from}
use Rattle.exercise_audit.proofs.Written.{more}

-- a station has one next entry
pub one_next : (r : PlainRecording) (h : History) (s i j : ℕ) (v w : Event) → IsNextEntry r h s i v → IsNextEntry r h s j w → i ≡ j
one_next r h s i j v w p q =
    let same : length (log_before r s i) ≡ length (log_before r s j) = p.place ∙ sym q.place in
    elim (cases_order i j) [
      | inl equal ↦ equal
      | inr (inl below) ↦ absurd (omega (arith, same, passes r s i j (ap is_some p.own) below))
      | inr (inr above) ↦ absurd (omega (arith, same, passes r s j i (ap is_some q.own) above))
    ]

-- the entry of a good step may happen after the steps before
pub may_happen : (r : PlainRecording) (before : List Step) (step : Step) (e : Entry) → IsGoodStep r before step e
    → MayHappen r (sequence_of r before) step.place
may_happen r before step e good = record {
  station = station_of (event_of e);
  event = event_of e;
  next = record { own = own_from r (station_of (event_of e)) step.place e good.at refl; place = sym good.next };
  allowed = good.allowed;
}

-- one entry is the earliest
pub one_earliest : (r : PlainRecording) (h : History) (i j : ℕ) → MayHappen r h i → MayHappen r h j → IsEarliest r h i → IsEarliest r h j → i ≡ j
one_earliest r h i j p q first other = elim (cases_order i j) [
  | inl equal ↦ equal
  | inr (inl below) ↦ absurd (apart (λ e. omega (arith, e, below)))
  | inr (inr above) ↦ absurd (apart (λ e. omega (arith, e, above)))
]
  where
    apart : (i ≡ j → ⊥) → ⊥
    apart differ =
        let a = first j q (λ e. differ (sym e)) in
        let b = other i p differ in
        let equal : stamp_of r i ≡ stamp_of r j = omega (arith, a.0, b.0) in
        let below : i < j = a.1 equal in
        let above : j < i = b.1 (sym equal) in
        omega (arith, below, above)

-- good steps after the same steps, with the same entry, are one
one_step : (r : PlainRecording) (before : List Step) (x y : Step) (e f : Entry) → IsGoodStep r before x e → IsGoodStep r before y f
    → x.place ≡ y.place → x ≡ y
one_step r before x y e f p q place =
    let entry : e ≡ f = same_Some e f (sym p.at ∙ ap (slice_get r.entries) place ∙ q.at) in
    let link : x.link ≡ y.link = p.link ∙ ap (λ i. link_number (link_of r before i (event_of e))) place
    ∙ ap (λ g. link_number (link_of r before y.place (event_of g))) entry ∙ sym q.link in
    ap (λ i. record { place = i; link = x.link }) place ∙ ap (λ l. record { place = y.place; link = l }) link

-- good steps in the sequence of time are the same as far as there are steps in both
same_take : (r : PlainRecording) (xs ys : List Step) → GoodBelow r xs (length xs) → IsTimely r xs → GoodBelow r ys (length ys) → IsTimely r ys
    → (k : ℕ) → k ≤ length xs → k ≤ length ys → take k xs ≡ take k ys
same_take r xs ys good timely fine punctual zero within inside = refl
same_take r xs ys good timely fine punctual (suc k) within inside =
    let below : k < length xs = omega (arith, within) in
    let under : k < length ys = omega (arith, inside) in
    let before = same_take r xs ys good timely fine punctual k (omega (arith, within)) (omega (arith, inside)) in
    let x = slice_index_or xs k no_step in
    let y = slice_index_or ys k no_step in
    let a = good_step r (take k xs) x (good k below) in
    let b0 = good_step r (take k ys) y (fine k under) in
    let b = subst (λ zs. IsGoodStep r zs y b0.0) (sym before) b0.1 in
    let first = timely k below in
    let other = subst (λ zs. IsEarliest r (sequence_of r zs) y.place) (sym before) (punctual k under) in
    let place = one_earliest r (sequence_of r (take k xs)) x.place y.place (may_happen r (take k xs) x a.0 a.1) (may_happen r (take k xs) y b0.0 b) first other in
    let step : x ≡ y = one_step r (take k xs) x y a.0 b0.0 a.1 b place in
    ap (λ n. take n xs) (sym (add-one k)) ∙ take_more xs k no_step below ∙ ap (λ zs. zs ++ x ∷ []) before ∙ ap (λ z. take k ys ++ z ∷ []) step
    ∙ sym (take_more ys k no_step under) ∙ ap (λ n. take n ys) (add-one k)

-- so where one has no more steps than the other, the other begins with them
pub same_front : (r : PlainRecording) (xs ys : List Step) → GoodBelow r xs (length xs) → IsTimely r xs → GoodBelow r ys (length ys) → IsTimely r ys
    → length xs ≤ length ys → xs ≡ take (length xs) ys
same_front r xs ys good timely fine punctual few =
    sym (take_all (length xs) xs (omega arith)) ∙ same_take r xs ys good timely fine punctual (length xs) (omega arith) few

-- THE SEQUENCE OF TIME IS ONE
pub one_sequence : (r : PlainRecording) (xs ys : List Step) → IsGood r xs → IsTimely r xs → IsGood r ys → IsTimely r ys → xs ≡ ys
one_sequence r xs ys good timely fine punctual =
    same_front r xs ys good.good timely fine.good punctual (omega (arith, good.count, fine.count))
    ∙ take_all (length xs) ys (omega (arith, good.count, fine.count))

-- ---- as written

-- each entry of a run is allowed after those before
allowed_at : (r : PlainRecording) (n k : ℕ) (e : Entry) → n ≤ length r.entries → IsRunAsWritten r n → k < n → slice_get r.entries k ≡ Some e
    → IsAllowed r.setting (written_below r k) (event_of e)
allowed_at r zero k e within run below at = absurd (omega (arith, below))
allowed_at r (suc n) k e within run below at =
    let last = entry_within r.entries n (omega (arith, within)) in
    let goes : written_below r (suc n) ≡ event_of last.0 ∷ written_below r n = ap (written_below r) (sym (add-one n)) ∙ more r n last.0 last.1 in
    let parts : IsRun r.setting (event_of last.0 ∷ written_below r n) = subst (IsRun r.setting) goes run in
    ⊎_elim
    (λ (earlier : k < n). allowed_at r n k e (omega (arith, within)) parts.0 earlier at)
    (λ (here : n ≤ k).
    let same : n ≡ k = omega (arith, here, below) in
    let own : last.0 ≡ e = same_Some last.0 e (sym last.1 ∙ ap (slice_get r.entries) same ∙ at) in
    subst (λ m. IsAllowed r.setting (written_below r m) (event_of e)) same
    (subst (λ x. IsAllowed r.setting (written_below r n) (event_of x)) own parts.1))
    (cases_lt k n)

-- after the entries below k, entry k is its station's next, and no entry below k is
pub next_written : (r : PlainRecording) (k : ℕ) (e : Entry) → slice_get r.entries k ≡ Some e
    → IsNextEntry r (written_below r k) (station_of (event_of e)) k (event_of e)
unfolding log_before
next_written r k e at = record { own = own_from r (station_of (event_of e)) k e at refl; place = refl }

pub not_below : (r : PlainRecording) (k s i : ℕ) (v : Event) → IsNextEntry r (written_below r k) s i v → k ≤ i
unfolding log_before
not_below r k s i v next = ⊎_elim
    (λ (below : i < k). absurd (omega (arith, next.place, passes r s i k (ap is_some next.own) below)))
    (λ (above : k ≤ i). above)
    (cases_lt i k)

-- the earliest entry is entry k
first_written : (r : PlainRecording) (k i : ℕ) (e : Entry) → IsRunAsWritten r (length r.entries) → StampsNeverFall r → slice_get r.entries k ≡ Some e
    → MayHappen r (written_below r k) i → IsEarliest r (written_below r k) i → i ≡ k
first_written r k i e run stamps at may first =
    let here : MayHappen r (written_below r k) k = record {
      station = station_of (event_of e);
      event = event_of e;
      next = next_written r k e at;
      allowed = allowed_at r (length r.entries) k e (omega arith) run (slice_get_within r.entries k e at) at;
    } in
    let least : k ≤ i = not_below r k may.station i may.event may.next in
    ⊎_elim
    (λ (later : k < i).
    let earlier = first k here (λ e. omega (arith, e, later)) in
    let rises : stamp_of r k ≤ stamp_of r i = stamps k i later (within_of may) in
    let equal : stamp_of r i ≡ stamp_of r k = omega (arith, earlier.0, rises) in
    let below : i < k = earlier.1 equal in
    absurd (omega (arith, below, later)))
    (λ (same : i ≤ k). omega (arith, same, least))
    (cases_lt k i)
  where
    own_length : (r : PlainRecording) (s i : ℕ) (v : Event) → own_event r s i ≡ Some v → i < length r.entries
    own_length r s i v own = let o = own_entry r s i (ap is_some own) in slice_get_within r.entries i o.0 o.1

    within_of : MayHappen r (written_below r k) i → i < length r.entries
    within_of may = own_length r may.station i may.event may.next.own

-- what the first k steps came to: they took the entries below k
record AreWritten (r : PlainRecording) (steps : List Step) (k : ℕ) : Type 0 where
  history : sequence_of r (take k steps) ≡ written_below r k
  places : (j : ℕ) → j < k → (slice_index_or steps j no_step).place ≡ j

written : (r : PlainRecording) (steps : List Step) → IsGood r steps → IsTimely r steps → IsRunAsWritten r (length r.entries) → StampsNeverFall r
    → (k : ℕ) → k ≤ length r.entries → AreWritten r steps k
unfolding past
written r steps good timely run stamps zero within = record { history = sequence_of-none r; places = λ j l. absurd (omega (arith, l)) }
written r steps good timely run stamps (suc k) within =
    let below : k < length steps = omega (arith, good.count, within) in
    let before = written r steps good timely run stamps k (omega (arith, within)) in
    let step = slice_index_or steps k no_step in
    let is = good_step r (take k steps) step (good.good k below) in
    let e = entry_within r.entries k (omega (arith, within)) in
    let may = subst (λ h. MayHappen r h step.place) before.history (may_happen r (take k steps) step is.0 is.1) in
    let first = subst (λ h. IsEarliest r h step.place) before.history (timely k below) in
    let here : step.place ≡ k = first_written r k step.place e.0 run stamps e.1 may first in
    let at : slice_get r.entries step.place ≡ Some e.0 = ap (slice_get r.entries) here ∙ e.1 in
    record {
      history = ap (λ n. sequence_of r (take n steps)) (sym (add-one k)) ∙ ap (sequence_of r) (take_more steps k no_step below)
          ∙ sequence_of-snoc r (take k steps) step
          ∙ ap (λ o. option_map_or (λ e. event_of e ∷ sequence_of r (take k steps)) o (sequence_of r (take k steps))) at
          ∙ ap (λ h. event_of e.0 ∷ h) before.history ∙ sym (more r k e.0 e.1) ∙ ap (written_below r) (add-one k);
      places = λ j l. ⊎_elim
          (λ (less : j < k). before.places j less)
          (λ (last : k ≤ j).
          let same : k ≡ j = omega (arith, last, l) in
          subst (λ m. (slice_index_or steps m no_step).place ≡ m) same here)
          (cases_lt j k);
    }

-- WHERE THE ENTRIES ARE A RUN as they are written, and stamps never fall, they are the sequence of time
pub as_written : (r : PlainRecording) (steps : List Step) → IsGood r steps → IsTimely r steps → IsRunAsWritten r (length r.entries) → StampsNeverFall r
    → IsAsWritten steps
as_written r steps good timely run stamps k below =
    (written r steps good timely run stamps (length r.entries) (omega arith)).places k (omega (arith, below, good.count))
