-- The first step that sends a datagram names its source: the datagram was sent exactly where its source was taken.
use Rattle.std.proofs.Common.{◌≡◌, ℕ, zero, suc, ◌+◌, ◌<◌, ◌≤◌, List, [], ◌∷◌, ◌++◌, length, take, cond, Option, Some, None, Bool, true, false, refl, sym, ap, ◌∙◌, subst, ⊎_elim, arith}
use Rattle.std.specs.Prelude.{is_some, slice_get, slice_index_or, nat_eq, nat_lt, bytes_eq, option_and_then, if◌then◌else◌}
use Rattle.std.specs.Option.{option_map_or, option_or}
use Rattle.std.specs.Cmp.Lexicographic.{bytes_decides}
use Rattle.std.proofs.Math.Numerals.{add-one}
use Rattle.std.proofs.lemmas.List.{take_more, take_all}
use Rattle.std.proofs.lemmas.Bool.{cases_lt, eqb-true, eq-eqb, lt-ltb, le-ltb}
use Rattle.std.proofs.lemmas.Option.{same_Some, slice_get_within}
use Rattle.siman_pdus.specs.declared.pdu.Pdu.{Pdu}
use Rattle.exercise_model.specs.Entry.{Entry, Sent, Received, Told}
use Rattle.exercise_model.specs.Recording.{PlainRecording, IsRecording}
use Rattle.exercise_model.specs.History.{Send, event_of, station_of, log_at}
use Rattle.exercise_model.specs.Meaning.{meaning}
use Rattle.exercise_model.specs.Cause.{sends, cause_of}
use Rattle.exercise_model.specs.Place.{event_at, own_event, log_before, first_below}
use Rattle.exercise_model.specs.Account.{sender_of}
use Rattle.exercise_model.proofs.Offered.{IsFirst, first_found, passes, sender_found, own_address, entry_station}
use Rattle.exercise_findings.specs.Source.{sends_here, first_send, source_of_pdu, source_of}
use Rattle.exercise_findings.proofs.Offered.{bytes_same, sends_there, source_here}
use Rattle.exercise_check.specs.declared.certificate.Step.{Step}
use Rattle.exercise_check.specs.Sequence.{sequence_of, first_sender}
use Rattle.exercise_check.specs.Goodness.{no_step, IsGoodStep, GoodBelow}
use Rattle.exercise_check.specs.Cursors.{Represents}
use Rattle.exercise_check.specs.Judging.{was_taken, if_taken}
use Rattle.exercise_check.proofs.Sequences.{first_sender-snoc, first_sender-none, length-order-none}
use Rattle.exercise_check.proofs.Courses.{own_entry}
use Rattle.exercise_check.proofs.Goodness.{good_step}
use Rattle.exercise_check.proofs.Nexts.{own_here}
use Rattle.exercise_check.proofs.Moved.{taken_more}

-- how many entries of a station stand before an entry, and how many of them were taken
abbrev rank : PlainRecording → ℕ → ℕ → ℕ
rank r t e = length (log_before r t e)

abbrev count : PlainRecording → ℕ → List Step → ℕ
count r t steps = length (log_at t (sequence_of r steps))

-- an entry of a station was taken where fewer stand before it than were taken
own_taken : (r : PlainRecording) (steps : List Step) (t e : ℕ) → is_some (own_event r t e) ≡ true
    → was_taken r steps e ≡ nat_lt (rank r t e) (count r t steps)
unfolding was_taken
own_taken r steps t e own =
    let x = own_entry r t e own in
    ap (λ o. option_map_or (λ (x : Entry). nat_lt (rank r (station_of (event_of x)) e) (count r (station_of (event_of x)) steps)) o false) x.1
    ∙ ap (λ k. nat_lt (rank r k e) (count r k steps)) x.2

-- an entry was taken where the one that its station is to do next comes after it
pub taken_by_cursor : (r : PlainRecording) (steps : List Step) (e s number : ℕ) (x : Entry) → s ≡ station_of (event_of x)
    → e < length r.entries → slice_get r.entries e ≡ Some x → Represents r s (count r s steps) number → nat_lt e number ≡ was_taken r steps e
taken_by_cursor r steps e s number x same within at stands = by ∙ sym (own_taken r steps s e own)
  where
    own : is_some (own_event r s e) ≡ true
    own = own_here r s e x at ∙ eq-eqb s _ same

    by : nat_lt e number ≡ nat_lt (rank r s e) (count r s steps)
    by = ⊎_elim
        (λ (before : e < number). lt-ltb _ _ before ∙ sym (lt-ltb _ _ (⊎_elim
        (λ (there : number < length r.entries). omega (arith, passes r s e number own before, stands.rank there))
        (λ (past : length r.entries ≤ number). omega (arith, passes r s e (length r.entries) own within, stands.none past))
        (cases_lt number (length r.entries)))))
        (λ (from : number ≤ e).
        let there : number < length r.entries = omega (arith, from, within) in
        le-ltb _ _ from ∙ sym (le-ltb _ _ (⊎_elim
        (λ (above : number < e). omega (arith, passes r s number e (stands.own there) above, stands.rank there))
        (λ (most : e ≤ number).
        let equal : number ≡ e = omega (arith, from, most) in
        omega (arith, stands.rank there, ap (rank r s) equal))
        (cases_lt number e))))
        (cases_lt e number)

-- what sends at a station is one of its entries
own_sending : (r : PlainRecording) (b : List ℕ) (t e : ℕ) → sends_here r b t e ≡ true → is_some (own_event r t e) ≡ true
own_sending r b t e = elim (own_event r t e) as (λ o. option_map_or (sends b) o false ≡ true → is_some o ≡ true) [ None ↦ λ h. absurd (cc) | Some v ↦ λ _. refl ]

-- what an entry of a station sends is what its event sends
own_sends : (r : PlainRecording) (b : List ℕ) (t i : ℕ) (e : Entry) → slice_get r.entries i ≡ Some e → sends_here r b t i ≡ true
    → sends b (event_of e) ≡ true
unfolding own_event
own_sends r b t i e at here =
    let own = sym (ap (λ o. option_map_or (sends b) (option_and_then (λ e. event_at t (event_of e)) o) false) at) ∙ here in
    elim (nat_eq (station_of (event_of e)) t) as (λ q. option_map_or (sends b) (cond q (Some (event_of e)) None) false ≡ true → sends b (event_of e) ≡ true) [
      | true ↦ λ h. h
      | false ↦ λ h. absurd (cc)
    ] own

-- two entries of a station with as many before them are one
pub same_rank : (r : PlainRecording) (t i j : ℕ) → is_some (own_event r t i) ≡ true → is_some (own_event r t j) ≡ true → rank r t i ≡ rank r t j → i ≡ j
same_rank r t i j one other same =
    ⊎_elim
    (λ (below : i < j). absurd (omega (arith, same, passes r t i j one below)))
    (λ (from : j ≤ i). ⊎_elim
    (λ (above : j < i). absurd (omega (arith, same, passes r t j i other above)))
    (λ (most : i ≤ j). let equal : i ≡ j = omega (arith, from, most) in equal)
    (cases_lt j i))
    (cases_lt i j)

-- the first below a number comes no later than one that passes
first_no_later : (test : ℕ → Bool) (e i : ℕ) → first_below test e ≡ None → test i ≡ true → e ≤ i
unfolding first_below
first_no_later test zero i none passes = omega arith
first_no_later test (suc e) i none passes =
    elim (first_below test e) as (λ o. first_below test e ≡ o → option_or o (if test e then Some e else None) ≡ None → suc e ≤ i) [
      | Some k ↦ λ _ h. absurd (cc)
      | None ↦ λ before h.
          let below : e ≤ i = first_no_later test e i before passes in
          ⊎_elim (λ (less : e < i). omega (arith, less)) (λ (most : i ≤ e).
          let same : i ≡ e = omega (arith, below, most) in
          absurd (cc (h, ap (λ (b : Bool). if b then Some e else None) (ap test (sym same) ∙ passes)))) (cases_lt e i)
    ] refl none

-- ---- one good step more

-- what a good step names, where it sends a datagram that means p: the station that p comes from sends it
record Sending (r : PlainRecording) (b : List ℕ) (p : Pdu) (place s : ℕ) : Type 0 where
  sender : sender_of r p ≡ Some s
  here : sends_here r b s place ≡ true

sending : (r : PlainRecording) → IsRecording r → (b : List ℕ) (p : Pdu) → meaning r.setting.exercise b ≡ Some p → (before : List Step) (step : Step) (e : Entry)
    → IsGoodStep r before step e → sends b (event_of e) ≡ true → Sending r b p step.place (station_of (event_of e))
sending r limits b p means before step e good = of_entry e good
  where
    of_entry : (e : Entry) → IsGoodStep r before step e → sends b (event_of e) ≡ true → Sending r b p step.place (station_of (event_of e))
    of_entry (Sent s stamp c) good same =
        let equal : b ≡ c = (bytes_decides b c).0 same in
        let at = subst (λ x. slice_get r.entries step.place ≡ Some (Sent s stamp x)) (sym equal) good.at in
        let allowed = subst (λ x. cause_of r.setting (sequence_of r before) (Send s x) ≡ None) (sym equal) good.allowed in
        let there = entry_station (length r.setting.stations) r.entries step.place (Sent s stamp c) limits.each_entry good.at in
        record {
          sender = sender_found r limits p s there (own_address r (sequence_of r before) s b p allowed means);
          here = sends_there r step.place s stamp b b s at ∙ ap (λ q. cond q (bytes_eq b b) false) (eq-eqb s s refl) ∙ bytes_same b;
        }
    of_entry (Received s stamp c) good same = absurd (cc)
    of_entry (Told s x y) good same = absurd (cc)

-- the first source of bytes at a station
abbrev source_at : PlainRecording → List ℕ → ℕ → Option ℕ
source_at r b t = first_below (sends_here r b t) (length r.entries)

taken_as : (r : PlainRecording) (steps : List Step) (e : ℕ) (t : Bool) → was_taken r steps e ≡ t → if_taken r steps (Some e) ≡ (if t then Some e else None)
taken_as r steps e t is = ap (λ b. if b then Some e else None) is

-- a source that the step does not name, where it sends nothing of these bytes
stays : (r : PlainRecording) (b : List ℕ) (t e : ℕ) (before : List Step) (step : Step) (x : Entry) → IsGoodStep r before step x
    → sends_here r b t e ≡ true → sends b (event_of x) ≡ false → was_taken r before e ≡ was_taken r (before ++ step ∷ []) e
stays r b t e before step x good source silent =
    let own = own_sending r b t e source in
    own_taken r before t e own
    ∙ elim (nat_eq t (station_of (event_of x))) as (λ q. nat_eq t (station_of (event_of x)) ≡ q
    → nat_lt (rank r t e) (count r t before) ≡ nat_lt (rank r t e) (count r t before + (if q then 1 else 0))) [
      | false ↦ λ _. ap (nat_lt (rank r t e)) (omega arith)
      | true ↦ λ near.
          let same : t ≡ station_of (event_of x) = eqb-true t _ near in
          let next : count r t before ≡ rank r t step.place =
          subst (λ k. count r k before ≡ rank r k step.place) (sym same) good.next in
          let mine : is_some (own_event r t step.place) ≡ true = own_here r t step.place x good.at ∙ near in
          let apart : rank r t e ≡ count r t before → ⊥ = λ is.
          let at : e ≡ step.place = same_rank r t e step.place own mine (is ∙ next) in
          absurd (cc (sym silent ∙ own_sends r b t step.place x good.at (ap (sends_here r b t) (sym at) ∙ source))) in
          ⊎_elim
          (λ (less : rank r t e < count r t before). lt-ltb _ _ less ∙ sym (lt-ltb _ _ (omega (arith, less))))
          (λ (most : count r t before ≤ rank r t e). ⊎_elim
          (λ (more : count r t before < rank r t e). le-ltb _ _ most ∙ sym (le-ltb _ _ (omega (arith, more))))
          (λ (least : rank r t e ≤ count r t before). let is : rank r t e ≡ count r t before = omega (arith, most, least) in absurd (apart is))
          (cases_lt (count r t before) (rank r t e)))
          (cases_lt (rank r t e) (count r t before))
    ] refl
    ∙ sym (own_taken r (before ++ step ∷ []) t e own ∙ ap (nat_lt (rank r t e)) (taken_more r t before step x good.at))

-- a source, and a step that sends its bytes
joins : (r : PlainRecording) (b : List ℕ) (t e : ℕ) (before : List Step) (step : Step) (x : Entry) → IsGoodStep r before step x → t ≡ station_of (event_of x)
    → IsFirst (sends_here r b t) (length r.entries) e → sends_here r b t step.place ≡ true
    → option_or (if_taken r before (Some e)) (Some step.place) ≡ if_taken r (before ++ step ∷ []) (Some e)
joins r b t e before step x good same first here =
    let own = own_sending r b t e first.passes in
    let near : nat_eq t (station_of (event_of x)) ≡ true = eq-eqb t _ same in
    let next : count r t before ≡ rank r t step.place = subst (λ k. count r k before ≡ rank r k step.place) (sym same) good.next in
    let more : count r t (before ++ step ∷ []) ≡ count r t before + 1 = taken_more r t before step x good.at ∙ ap (λ q. count r t before + (if q then 1 else 0)) near in
    let no_later : e ≤ step.place = first_no_later (sends_here r b t) e step.place first.none here in
    ⊎_elim
    (λ (earlier : e < step.place).
    let less : rank r t e < count r t before = omega (arith, next, passes r t e step.place own earlier) in
    let was = own_taken r before t e own ∙ lt-ltb _ _ less in
    let is = own_taken r (before ++ step ∷ []) t e own ∙ lt-ltb _ _ (omega (arith, less, more)) in
    ap (λ o. option_or o (Some step.place)) (taken_as r before e true was) ∙ sym (taken_as r (before ++ step ∷ []) e true is))
    (λ (most : step.place ≤ e).
    let at : e ≡ step.place = omega (arith, no_later, most) in
    let equal : rank r t e ≡ count r t before = ap (rank r t) at ∙ sym next in
    let was = own_taken r before t e own ∙ le-ltb _ _ (omega (arith, equal)) in
    let is = own_taken r (before ++ step ∷ []) t e own ∙ lt-ltb _ _ (omega (arith, equal, more)) in
    ap (λ o. option_or o (Some step.place)) (taken_as r before e false was) ∙ ap Some (sym at) ∙ sym (taken_as r (before ++ step ∷ []) e true is))
    (cases_lt e step.place)

or_none : (o : Option ℕ) → option_or o None ≡ o
or_none None = refl
or_none (Some x) = refl

-- WHO SENT FIRST so far is the source, if that one was taken
grows : (r : PlainRecording) → IsRecording r → (b : List ℕ) (p : Pdu) → meaning r.setting.exercise b ≡ Some p
    → (before : List Step) (step : Step) (x : Entry) → IsGoodStep r before step x
    → option_or (if_taken r before (source_of_pdu r b p)) (if sends b (event_of x) then Some step.place else None)
    ≡ if_taken r (before ++ step ∷ []) (source_of_pdu r b p)
unfolding first_send
grows r limits b p means before step x good =
    elim (sends b (event_of x)) as (λ q. sends b (event_of x) ≡ q
    → option_or (if_taken r before (source_of_pdu r b p)) (if q then Some step.place else None) ≡ if_taken r (before ++ step ∷ []) (source_of_pdu r b p)) [
      | false ↦ λ silent. or_none _ ∙ still silent (sender_of r p)
      | true ↦ λ sent.
          let s : ℕ = station_of (event_of x) in
          let here = sending r limits b p means before step x good sent in
          let source : source_of_pdu r b p ≡ source_at r b s = ap (option_and_then (first_send r b)) here.sender in
          ap (λ o. option_or (if_taken r before o) (Some step.place)) source ∙ taken s here (source_at r b s) refl
          ∙ ap (if_taken r (before ++ step ∷ [])) (sym source)
    ] refl
  where
    still_at : (t : ℕ) (o : Option ℕ) → source_at r b t ≡ o → sends b (event_of x) ≡ false → if_taken r before o ≡ if_taken r (before ++ step ∷ []) o
    still_at t None is silent = refl
    still_at t (Some e) is silent =
        let first = first_found (sends_here r b t) (length r.entries) e is in
        ap (λ q. if q then Some e else None) (stays r b t e before step x good first.passes silent)

    still : sends b (event_of x) ≡ false → (o : Option ℕ)
        → if_taken r before (option_and_then (first_send r b) o) ≡ if_taken r (before ++ step ∷ []) (option_and_then (first_send r b) o)
    still silent None = refl
    still silent (Some t) = still_at t (source_at r b t) refl silent

    taken : (s : ℕ) → Sending r b p step.place s → (o : Option ℕ) → source_at r b s ≡ o
        → option_or (if_taken r before o) (Some step.place) ≡ if_taken r (before ++ step ∷ []) o
    taken s here None is = absurd (omega (arith, first_no_later (sends_here r b s) (length r.entries) step.place is here.here, slice_get_within r.entries step.place x good.at))
    taken s here (Some e) is =
        let first = first_found (sends_here r b s) (length r.entries) e is in
        joins r b s e before step x good (same_Some s (station_of (event_of x)) (sym here.sender ∙ (sending r limits b p means before step x good (own_sends r b s step.place x good.at here.here)).sender)) first here.here

-- before the first step nothing was taken
none_taken : (r : PlainRecording) (o : Option ℕ) → if_taken r [] o ≡ None
unfolding was_taken
none_taken r None = refl
none_taken r (Some e) =
    elim (slice_get r.entries e) as (λ o. (if option_map_or (λ (x : Entry). nat_lt (rank r (station_of (event_of x)) e) (count r (station_of (event_of x)) [])) o false then Some e else None)
    ≡ None) [
      | None ↦ refl
      | Some x ↦ ap (λ n. if nat_lt (rank r (station_of (event_of x)) e) n then Some e else None) (length-order-none r (station_of (event_of x)))
          ∙ ap (λ q. if q then Some e else None) (le-ltb (rank r (station_of (event_of x)) e) 0 (omega arith))
    ]

-- so it is after each number of good steps
pub first_taken : (r : PlainRecording) → IsRecording r → (b : List ℕ) (p : Pdu) → meaning r.setting.exercise b ≡ Some p → (steps : List Step)
    → GoodBelow r steps (length steps) → (n : ℕ) → n ≤ length steps
    → first_sender r.entries b (take n steps) ≡ if_taken r (take n steps) (source_of_pdu r b p)
first_taken r limits b p means steps good zero within = first_sender-none r.entries b ∙ sym (none_taken r (source_of_pdu r b p))
first_taken r limits b p means steps good (suc n) within =
    let before : List Step = take n steps in
    let step : Step = slice_index_or steps n no_step in
    let here = good_step r before step (good n (omega arith)) in
    let longer : take (suc n) steps ≡ before ++ step ∷ [] = ap (λ k. take k steps) (sym (add-one n)) ∙ take_more steps n no_step (omega arith) in
    ap (first_sender r.entries b) longer ∙ first_sender-snoc r.entries b before step
    ∙ ap (λ o. option_or o (if option_map_or (λ e. sends b (event_of e)) (slice_get r.entries step.place) false then Some step.place else None))
    (first_taken r limits b p means steps good n (omega arith))
    ∙ ap (λ o. option_or (if_taken r before (source_of_pdu r b p)) (if option_map_or (λ e. sends b (event_of e)) o false then Some step.place else None)) here.1.at
    ∙ grows r limits b p means before step here.0 here.1
    ∙ ap (λ xs. if_taken r xs (source_of_pdu r b p)) (sym longer)

-- THE FIRST STEP that sends what an entry received names its source, and there is one exactly where the source was taken
pub source_first : (r : PlainRecording) (steps : List Step) (place s stamp : ℕ) (b : List ℕ) (p : Pdu) → IsRecording r → GoodBelow r steps (length steps)
    → slice_get r.entries place ≡ Some (Received s stamp b) → meaning r.setting.exercise b ≡ Some p
    → if_taken r steps (source_of r place) ≡ first_sender r.entries b steps
source_first r steps place s stamp b p limits good at means =
    ap (if_taken r steps) (source_here r place (Received s stamp b) at ∙ ap (option_and_then (source_of_pdu r b)) means)
    ∙ sym (subst (λ xs. first_sender r.entries b xs ≡ if_taken r xs (source_of_pdu r b p)) (take_all (length steps) steps (omega arith))
    (first_taken r limits b p means steps good (length steps) (omega arith)))
