-- Good certificates name each entry once, and link it as the logs say.
use Rattle.std.proofs.Common.{◌≡◌, ⊎_elim, ℕ, zero, suc, ◌+◌, ◌-◌, ◌<◌, ◌≤◌, List, length, take, cond, true, false, Option, Some, None, refl, sym, ap, ◌∙◌, subst, arith}
use Rattle.std.specs.Prelude.{nat_eq, is_some, slice_get, option_and_then, if◌then◌else◌}
use Rattle.std.specs.Option.{option_or}
use Rattle.std.proofs.Math.Numerals.{add-one}
use Rattle.std.proofs.lemmas.Bool.{cases_lt, eqb-true, eq-eqb}
use Rattle.std.proofs.lemmas.List.{take_all}
use Rattle.std.proofs.lemmas.Option.{none-some, slice_get_within}
use Rattle.siman_pdus.specs.declared.pdu.Pdu.{Pdu}
use Rattle.exercise_model.specs.declared.cause.Cause.TheVariants.{NeverSent}
use Rattle.exercise_model.specs.Entry.{Entry, Sent, Received, Told}
use Rattle.exercise_model.specs.Recording.{PlainRecording, IsRecording}
use Rattle.exercise_model.specs.History.{Get, event_of, station_of, log_at}
use Rattle.exercise_model.specs.Meaning.{meaning}
use Rattle.exercise_model.specs.Setting.{is_recorded}
use Rattle.exercise_model.specs.Cause.{was_sent, cause_of}
use Rattle.exercise_model.specs.Place.{event_at, own_event, log_before}
use Rattle.exercise_model.specs.Account.{pair_of_sent, pair_of_entry, pair_of, sender_of}
use Rattle.exercise_model.proofs.Offered.{log_before-all, passes, unsent_is_never_sent}
use Rattle.exercise_findings.specs.Source.{first_send, source_of_pdu, source_of}
use Rattle.exercise_findings.proofs.Offered.{entry_within, recorded_sender, source_here}
use Rattle.exercise_check.specs.declared.certificate.Step.{Step}
use Rattle.exercise_check.specs.Sequence.{sequence_of, first_sender, sender_link, link_of, link_number}
use Rattle.exercise_check.specs.Judging.{was_taken, if_taken}
use Rattle.exercise_check.specs.Goodness.{IsGoodStep, GoodBelow, IsGood}
use Rattle.exercise_check.specs.Links.{log_link, step_at, IsNamedOnce, DifferInSequence}
use Rattle.exercise_check.proofs.Explained.{good_explains}
use Rattle.exercise_check.proofs.FirstSenders.{first_taken, same_rank}
use Rattle.exercise_check.proofs.Goodness.{good_step}
use Rattle.exercise_check.proofs.Sequences.{is_some-first_sender, length-steps-more, length-steps-none}

-- ---- links

-- what was taken where something was
taken_is : (r : PlainRecording) (before : List Step) (o : Option ℕ) → is_some (if_taken r before o) ≡ true → if_taken r before o ≡ o
taken_is r before None some = refl
taken_is r before (Some e) some =
    elim (was_taken r before e) as (λ t. is_some (if t then Some e else None) ≡ true → (if t then Some e else None) ≡ Some e) [
      | true ↦ λ _. refl
      | false ↦ λ h. absurd (cc)
    ] some

-- what was received and had to be sent was sent
sent_there : (r : PlainRecording) (before : List Step) (s : ℕ) (b : List ℕ) (p : Pdu) → meaning r.setting.exercise b ≡ Some p → is_recorded r.setting p ≡ true
    → cause_of r.setting (sequence_of r before) (Get s b) ≡ None → is_some (first_sender r.entries b before) ≡ true
sent_there r before s b p meant recorded allowed =
    is_some-first_sender r b before
    ∙ elim (was_sent b (sequence_of r before)) as (λ t. was_sent b (sequence_of r before) ≡ t → t ≡ true) [
      | true ↦ λ _. refl
      | false ↦ λ unsent. absurd (none-some NeverSent (sym allowed ∙ unsent_is_never_sent r.setting (sequence_of r before) s b p meant recorded unsent))
    ] refl

-- what was received is linked with its source
got_link : (r : PlainRecording) (steps : List Step) (k place s stamp : ℕ) (b : List ℕ) → IsRecording r → GoodBelow r steps (length steps) → k ≤ length steps
    → slice_get r.entries place ≡ Some (Received s stamp b) → cause_of r.setting (sequence_of r (take k steps)) (Get s b) ≡ None
    → link_of r (take k steps) place (Get s b) ≡ source_of r place
unfolding link_of
got_link r steps k place s stamp b limits good within at allowed =
    elim (meaning r.setting.exercise b) as (λ o. meaning r.setting.exercise b ≡ o
    → option_and_then (sender_link r b (take k steps)) o ≡ option_and_then (source_of_pdu r b) o) [
      | None ↦ λ _. refl
      | Some p ↦ λ meant. of_pdu p meant
    ] refl
    ∙ sym (source_here r place (Received s stamp b) at)
  where
    none : (o : Option ℕ) → is_some o ≡ false → option_and_then (first_send r b) o ≡ None
    none None e = refl
    none (Some t) e = absurd (cc)

    of_pdu : (p : Pdu) → meaning r.setting.exercise b ≡ Some p → sender_link r b (take k steps) p ≡ source_of_pdu r b p
    of_pdu p meant =
        elim (is_recorded r.setting p) as (λ t. is_recorded r.setting p ≡ t
        → (if t then first_sender r.entries b (take k steps) else None) ≡ source_of_pdu r b p) [
          | false ↦ λ outside. sym (none (sender_of r p) (recorded_sender r p ∙ outside))
          | true ↦ λ recorded.
              let taken = first_taken r limits b p meant steps good k within in
              taken ∙ taken_is r (take k steps) (source_of_pdu r b p)
              (sym (ap is_some taken) ∙ sent_there r (take k steps) s b p meant recorded allowed)
        ] refl

or_none : (o : Option ℕ) → option_or o None ≡ o
or_none None = refl
or_none (Some x) = refl

-- the link of an event is that of its entry by the logs
link_is : (r : PlainRecording) (steps : List Step) (k place : ℕ) (e : Entry) → IsRecording r → GoodBelow r steps (length steps) → k ≤ length steps
    → slice_get r.entries place ≡ Some e → cause_of r.setting (sequence_of r (take k steps)) (event_of e) ≡ None
    → link_of r (take k steps) place (event_of e) ≡ log_link r place
unfolding link_of pair_of
link_is r steps k place (Sent s stamp b) limits good within at allowed =
    sym (or_none (option_and_then (pair_of_sent r s place) (meaning r.setting.exercise b)))
    ∙ ap (option_or (option_and_then (pair_of_sent r s place) (meaning r.setting.exercise b))) (sym (source_here r place (Sent s stamp b) at))
    ∙ ap (λ o. option_or o (source_of r place)) (sym (ap (option_and_then (pair_of_entry r place)) at))
link_is r steps k place (Received s stamp b) limits good within at allowed =
    got_link r steps k place s stamp b limits good within at allowed
    ∙ ap (λ o. option_or o (source_of r place)) (sym (ap (option_and_then (pair_of_entry r place)) at))
link_is r steps k place (Told s n y) limits good within at allowed =
    sym (source_here r place (Told s n y) at)
    ∙ ap (λ o. option_or o (source_of r place)) (sym (ap (option_and_then (pair_of_entry r place)) at))

good_here : (r : PlainRecording) (steps : List Step) (k : ℕ) → GoodBelow r steps (length steps) → k < length steps
    → (e : Entry) × IsGoodStep r (take k steps) (step_at steps k) e
good_here r steps k good within = good_step r (take k steps) (step_at steps k) (good k within)

-- EACH LINK OF A GOOD CERTIFICATE is that of its entry by the logs
pub links_said : (r : PlainRecording) (steps : List Step) (k : ℕ) → IsRecording r → IsGood r steps → k < length steps
    → (step_at steps k).link ≡ link_number (log_link r (step_at steps k).place)
links_said r steps k limits good within =
    let here = good_here r steps k good.good within in
    here.1.link ∙ ap link_number (link_is r steps k (step_at steps k).place here.0 limits good.good (omega (arith, within)) here.1.at here.1.allowed)

-- ---- each entry once

-- how many entries of a station stand before an entry, and how many of it the first n steps name
abbrev rank : PlainRecording → ℕ → ℕ → ℕ
rank r t i = length (log_before r t i)

abbrev named : PlainRecording → ℕ → List Step → ℕ → ℕ
named r t steps n = length (log_at t (sequence_of r (take n steps)))

own_station : (r : PlainRecording) (t i : ℕ) (e : Entry) → slice_get r.entries i ≡ Some e → is_some (own_event r t i) ≡ true → station_of (event_of e) ≡ t
unfolding own_event
own_station r t i e at own =
    elim (nat_eq (station_of (event_of e)) t) as (λ b. nat_eq (station_of (event_of e)) t ≡ b → is_some (cond b (Some (event_of e)) None) ≡ true
    → station_of (event_of e) ≡ t) [
      | true ↦ λ same _. eqb-true (station_of (event_of e)) t same
      | false ↦ λ _ h. absurd (cc)
    ] refl (sym (ap (λ o. is_some (option_and_then (λ e. event_at t (event_of e)) o)) at) ∙ own)

own_some : (r : PlainRecording) (i : ℕ) (e : Entry) → slice_get r.entries i ≡ Some e → is_some (own_event r (station_of (event_of e)) i) ≡ true
unfolding own_event
own_some r i e at =
    let t : ℕ = station_of (event_of e) in
    ap (λ o. is_some (option_and_then (λ e. event_at t (event_of e)) o)) at ∙ ap (λ b. is_some (cond b (Some (event_of e)) None)) (eq-eqb t t refl)

-- a good step names the entry of its station that comes next
next_here : (r : PlainRecording) (steps : List Step) (t n : ℕ) → GoodBelow r steps (length steps) → n < length steps
    → is_some (own_event r t (step_at steps n).place) ≡ true → named r t steps n ≡ rank r t (step_at steps n).place
next_here r steps t n good within own =
    let here = good_here r steps n good within in
    subst (λ s. length (log_at s (sequence_of r (take n steps))) ≡ length (log_before r s (step_at steps n).place))
    (own_station r t (step_at steps n).place here.0 here.1.at own) here.1.next

grows : (r : PlainRecording) (t : ℕ) (steps : List Step) (m d : ℕ) → m + d ≤ length steps → named r t steps m ≤ named r t steps (m + d)
grows r t steps m zero within = let same : m + 0 ≡ m = omega arith in omega (arith, ap (named r t steps) same)
grows r t steps m (suc d) within =
    let next : m + suc d ≡ m + d + 1 = omega arith in
    omega (
      arith,
      grows r t steps m d (omega (arith, within)),
      length-steps-more r t steps (m + d) (omega (arith, within)),
      ap (named r t steps) next,
    )

-- two steps name two entries
apart : (r : PlainRecording) (steps : List Step) (j k : ℕ) → GoodBelow r steps (length steps) → j < k → k < length steps
    → (step_at steps j).place ≡ (step_at steps k).place → ⊥
apart r steps j k good before within same =
    let here = good_here r steps j good (omega (arith, before, within)) in
    let t : ℕ = station_of (event_of here.0) in
    let place : ℕ = (step_at steps j).place in
    let own : is_some (own_event r t place) ≡ true = own_some r place here.0 here.1.at in
    let later : is_some (own_event r t (step_at steps k).place) ≡ true = ap (λ i. is_some (own_event r t i)) (sym same) ∙ own in
    let more : named r t steps (j + 1) ≡ named r t steps j + 1 =
    length-steps-more r t steps j (omega (arith, before, within)) ∙ ap (λ b. named r t steps j + (if b then 1 else 0)) own in
    let from : k ≡ j + 1 + (k - (j + 1)) = omega (arith, before) in
    omega (
      arith,
      next_here r steps t j good (omega (arith, before, within)) own,
      next_here r steps t k good within later,
      ap (rank r t) same,
      more,
      grows r t steps (j + 1) (k - (j + 1)) (omega (arith, before, within)),
      ap (named r t steps) from,
    )

-- an entry of a station is named where more of the station are named than stand before it
found_among : (r : PlainRecording) (steps : List Step) (i t : ℕ) → GoodBelow r steps (length steps) → is_some (own_event r t i) ≡ true
    → (n : ℕ) → n ≤ length steps → rank r t i < named r t steps n → (k : ℕ) × (k < n) × ((step_at steps k).place ≡ i)
found_among r steps i t good own zero within less =
    let none : named r t steps zero ≡ 0 = length-steps-none r t in absurd (omega (arith, less, none))
found_among r steps i t good own (suc n) within less =
    let same : named r t steps (suc n) ≡ named r t steps (n + 1) = ap (named r t steps) (sym (add-one n)) in
    ⊎_elim
    (λ (below : rank r t i < named r t steps n).
    let found = found_among r steps i t good own n (omega (arith, within)) below in
    (found.0, omega (arith, found.1), found.2))
    (λ (from : named r t steps n ≤ rank r t i).
    elim (is_some (own_event r t (step_at steps n).place)) as (λ b. is_some (own_event r t (step_at steps n).place) ≡ b
    → named r t steps (n + 1) ≡ named r t steps n + (if b then 1 else 0) → (k : ℕ) × (k < suc n) × ((step_at steps k).place ≡ i)) [
      | false ↦ λ _ more. absurd (omega (arith, less, same, more, from))
      | true ↦ λ mine more.
          let next = next_here r steps t n good (omega (arith, within)) mine in
          let equal : rank r t i ≡ rank r t (step_at steps n).place = omega (arith, less, same, more, from, next) in
          (n, omega arith, sym (same_rank r t i (step_at steps n).place own mine equal))
    ] refl (length-steps-more r t steps n (omega (arith, within))))
    (cases_lt (rank r t i) (named r t steps n))

-- A GOOD CERTIFICATE NAMES EACH ENTRY ONCE
pub named_once : (r : PlainRecording) (steps : List Step) (i : ℕ) → IsRecording r → IsGood r steps → i < length r.entries → IsNamedOnce steps i
named_once r steps i limits good within =
    let entry = entry_within r.entries i within in
    let t : ℕ = station_of (event_of entry.0) in
    let own : is_some (own_event r t i) ≡ true = own_some r i entry.0 entry.1 in
    let all : named r t steps (length steps) ≡ rank r t (length r.entries) =
    ap (λ xs. length (log_at t (sequence_of r xs))) (take_all (length steps) steps (omega arith))
    ∙ ap length ((good_explains r limits steps good).logs t ∙ sym (log_before-all r t)) in
    let found = found_among r steps i t good.good own (length steps) (omega arith) (omega (arith, all, passes r t i (length r.entries) own within)) in
    record {
      at = found.0;
      within = found.1;
      names = found.2;
      only = λ k below names. ⊎_elim
          (λ (before : k < found.0). absurd (apart r steps k found.0 good.good before found.1 (names ∙ sym found.2)))
          (λ (from : found.0 ≤ k). ⊎_elim
          (λ (behind : found.0 < k). absurd (apart r steps found.0 k good.good behind below (found.2 ∙ sym names)))
          (λ (most : k ≤ found.0). let here : k ≡ found.0 = omega (arith, from, most) in here)
          (cases_lt found.0 k))
          (cases_lt k found.0);
    }

step_same : (x y : Step) → x.place ≡ y.place → x.link ≡ y.link → x ≡ y
step_same x y place link = rw (place, link) refl

-- TWO GOOD CERTIFICATES differ in order alone
pub differ_in_sequence : (r : PlainRecording) (steps other : List Step) → IsRecording r → IsGood r steps → IsGood r other → DifferInSequence steps other
differ_in_sequence r steps other limits good also = record {
  count = good.count ∙ sym also.count;
  there = λ k within.
      let here = good_here r steps k good.good within in
      let place : ℕ = (step_at steps k).place in
      let found = named_once r other place limits also (slice_get_within r.entries place here.0 here.1.at) in (
        found.at,
        found.within,
        step_same (step_at other found.at) (step_at steps k) found.names
            (links_said r other found.at limits also found.within ∙ ap (λ i. link_number (log_link r i)) found.names ∙ sym (links_said r steps k limits good within)),
      );
  once = λ j k one two same.
      let here = good_here r other k also.good two in
      let found = named_once r other (step_at other k).place limits also (slice_get_within r.entries (step_at other k).place here.0 here.1.at) in
      found.only j one same ∙ sym (found.only k two refl);
}
