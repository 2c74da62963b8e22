-- A wider recording that a run explains has at least as many further entries as sends are missing.
use Rattle.std.proofs.Common.{◌≡◌, ⊎_elim, ℕ, zero, suc, ◌+◌, ◌<◌, ◌≤◌, List, [], ◌∷◌, ◌++◌, filter, length, cond, Bool, true, false, Option, Some, None, refl, sym, ap, ◌∙◌, subst, arith, append-nil, length-append}
use Rattle.std.specs.Prelude.{slice_get, slice_index_or, nat_eq, nat_lt, not, is_none, bytes_eq, ◌&&◌, ◌||◌, ◌==◌, option_map, if◌then◌else◌}
use Rattle.std.specs.Option.{option_map_or, option_to_list}
use Rattle.std.specs.List.{list_any, list_all}
use Rattle.std.specs.Cmp.Lexicographic.{bytes_decides}
use Rattle.std.proofs.lemmas.Bool.{or_cases, or_left, or_right, eq-eqb, eqb-true, ltb-true, and_parts}
use Rattle.std.proofs.lemmas.Bool.Decides.{nat_tests}
use Rattle.std.proofs.lemmas.Option.{get_or_from_slice_get, slice_get_within}
use Rattle.exercise_model.specs.Entry.{Entry, Received}
use Rattle.exercise_model.specs.Recording.{PlainRecording, IsRecording}
use Rattle.exercise_model.specs.History.{Event, Send, Get, Tell, History, event_of, station_of, past, log_at, log_of}
use Rattle.exercise_model.specs.Place.{first_below, log_before}
use Rattle.exercise_model.specs.Run.{Explains, Contains}
use Rattle.exercise_model.proofs.Offered.{length-past, log_before-all, past_within}
use Rattle.exercise_findings.proofs.Offered.{bytes_same}
use Rattle.exercise_findings.specs.Missing.{gets_bytes, missing_at}
use Rattle.exercise_conflict.specs.declared.lacks.MissingSend.{MissingSend}
use Rattle.exercise_conflict.specs.Lacks.{missing_send_by, missing_send_at, missing_sends_below, missing_sends}
use Rattle.exercise_conflict.specs.Needed.{HasSend}
use Rattle.exercise_conflict.specs.Repair.{Every, bytes_of, no_entry}
use Rattle.exercise_conflict.proofs.Every.{every-append}
use Rattle.exercise_conflict.specs.Further.{same_send, bytes_at, is_this_missing_send}
use Rattle.exercise_conflict.specs.Wider.{AddsTo, anything, IsWider}
use Rattle.exercise_conflict.proofs.Blocks.{own_entry}
use Rattle.exercise_conflict.proofs.Lacking.{lacking, lacks_send, needed, none_passes}
use Rattle.exercise_conflict.proofs.Places.{in_log}
use Rattle.exercise_conflict.proofs.Repairs.{IsLackOf, all_lacks}
use Rattle.exercise_conflict.proofs.Tables.{gets_here}

-- ---- which events are sends that a log lacks

abbrev pub sends_some : PlainRecording → List MissingSend → Event → Bool
sends_some r lacks v = list_any (is_this_missing_send r v) lacks

-- the bytes of a receipt, and so of a lack
pub bytes_received : (r : PlainRecording) (i s stamp : ℕ) (b : List ℕ) → slice_get r.entries i ≡ Some (Received s stamp b) → bytes_at r i ≡ b
unfolding bytes_at
bytes_received r i s stamp b got = ap bytes_of (get_or_from_slice_get r.entries i (Received s stamp b) no_entry got)

pub bytes_there : (r : PlainRecording) (lack : MissingSend) (of : IsLackOf r lack) → bytes_at r lack.entry ≡ of.lacking.bytes
bytes_there r lack of = bytes_received r lack.entry of.lacking.station of.lacking.stamp of.lacking.bytes of.lacking.got

both : (a b : Bool) → (a && b) ≡ true → (a ≡ true) × (b ≡ true)
both true b e = (refl, e)
both false b e = absurd (cc)

-- what is the send of some bytes is that event
pub is_send : (t : ℕ) (b : List ℕ) (v : Event) → same_send t b v ≡ true → v ≡ Send t b
is_send t b (Send s c) e =
    let parts = both (nat_eq s t) (bytes_eq b c) e in
    ap (λ k. Send k c) (eqb-true s t parts.0) ∙ ap (Send t) (sym ((bytes_decides b c).0 parts.1))
is_send t b (Get s c) e = absurd (cc)
is_send t b (Tell s k y) e = absurd (cc)

pub send_is : (t : ℕ) (b : List ℕ) → same_send t b (Send t b) ≡ true
send_is t b = ap (λ q. q && bytes_eq b b) (eq-eqb t t refl) ∙ bytes_same b

-- ---- counting

abbrev one_if : Bool → ℕ
one_if b = cond b 1 0

-- how many events of a history pass
abbrev pub count : (Event → Bool) → History → ℕ
count f [] = 0
count f (v ∷ h) = one_if (f v) + count f h

count_most : (f : Event → Bool) (h : History) → count f h ≤ length h
count_most f [] = omega arith
count_most f (v ∷ h) =
    let rest = count_most f h in
    elim (f v) as (λ b. one_if b + count f h ≤ suc (length h)) [ true ↦ omega (arith, rest) | false ↦ omega (arith, rest) ]

-- of two tests that no element passes both, those that pass either are those that pass the one and those that pass the other
count_or : (f g : Event → Bool) → ((v : Event) → f v ≡ true → g v ≡ true → ⊥) → (h : History)
    → count (λ v. f v || g v) h ≡ count f h + count g h
count_or f g apart [] = refl
count_or f g apart (v ∷ h) =
    let rest = count_or f g apart h in
    elim (f v) as (λ a. f v ≡ a → one_if (a || g v) + count (λ v. f v || g v) h ≡ (one_if a + count f h) + (one_if (g v) + count g h)) [
      | true ↦ λ one. elim (g v) as (λ b. g v ≡ b → 1 + count (λ v. f v || g v) h ≡ (1 + count f h) + (one_if b + count g h)) [
        | true ↦ λ other. absurd (apart v one other)
        | false ↦ λ _. omega (arith, rest)
      ] refl
      | false ↦ λ _. omega (arith, rest)
    ] refl

count_same : (f g : Event → Bool) → ((v : Event) → f v ≡ g v) → (h : History) → count f h ≡ count g h
count_same f g same [] = refl
count_same f g same (v ∷ h) =
    let here : one_if (f v) ≡ one_if (g v) = ap one_if (same v) in
    let rest = count_same f g same h in
    omega (arith, here, rest)

count_in : (f : Event → Bool) (later before : History) (v : Event) → f v ≡ true → 1 ≤ count f (later ++ v ∷ before)
count_in f [] before v passes =
    let here : one_if (f v) ≡ 1 = ap one_if passes in omega (arith, here)
count_in f (x ∷ later) before v passes = let rest = count_in f later before v passes in omega (arith, rest)

-- a log has no more of them than the history
count_log : (f : Event → Bool) (s : ℕ) (h : History) → count f (log_at s h) ≤ count f h
unfolding log_at
count_log f s [] = omega arith
count_log f s (v ∷ h) =
    let rest = count_log f s h in
    elim (nat_eq (station_of v) s) as (λ b. count f (cond b (v ∷ log_at s h) (log_at s h)) ≤ one_if (f v) + count f h) [
      | true ↦ omega (arith, rest)
      | false ↦ omega (arith, rest)
    ]

-- each event passes a test or does not
count_not : (f : Event → Bool) (h : History) → length (filter (λ v. not (f v)) h) + count f h ≡ length h
count_not f [] = refl
count_not f (v ∷ h) =
    let rest = count_not f h in
    elim (f v) as (λ b. length (cond (not b) (v ∷ filter (λ v. not (f v)) h) (filter (λ v. not (f v)) h)) + (one_if b + count f h) ≡ suc (length h)) [
      | true ↦ omega (arith, rest)
      | false ↦ omega (arith, rest)
    ]

-- ---- histories by their logs

-- how many events are of the stations below n
abbrev count_below : ℕ → History → ℕ
count_below n h = count (λ v. nat_lt (station_of v) n) h

below_none : (h : History) → count_below 0 h ≡ 0
below_none [] = refl
below_none (v ∷ h) =
    let rest = below_none h in
    let here : one_if (nat_lt (station_of v) 0) ≡ 0 = grind (arith, nat_tests) in
    omega (arith, here, rest)

one_more : (a n : ℕ) → one_if (nat_lt a (suc n)) ≡ one_if (nat_lt a n) + one_if (nat_eq a n)
one_more a n = grind (arith, nat_tests)

below_more : (n : ℕ) (h : History) → count_below (suc n) h ≡ count_below n h + length (log_at n h)
unfolding log_at
below_more n [] = refl
below_more n (v ∷ h) =
    let rest = below_more n h in
    let here = one_more (station_of v) n in
    elim (nat_eq (station_of v) n) as (λ b. one_if (nat_lt (station_of v) (suc n)) ≡ one_if (nat_lt (station_of v) n) + one_if b
    → one_if (nat_lt (station_of v) (suc n)) + count_below (suc n) h ≡ (one_if (nat_lt (station_of v) n) + count_below n h) + length (cond b (v ∷ log_at n h) (log_at n h))) [
      | true ↦ λ here. omega (arith, here, rest)
      | false ↦ λ here. omega (arith, here, rest)
    ] here

below_le : (n : ℕ) (h k : History) → ((s : ℕ) → length (log_at s h) ≤ length (log_at s k)) → count_below n h ≤ count_below n k
below_le zero h k le = omega (arith, below_none h, below_none k)
below_le (suc n) h k le = omega (arith, below_more n h, below_more n k, below_le n h k le, le n)

below_all : (n : ℕ) (h : History) → list_all (λ v. nat_lt (station_of v) n) h ≡ true → count_below n h ≡ length h
below_all n [] e = refl
below_all n (v ∷ h) e =
    let parts = and_parts (nat_lt (station_of v) n) (list_all (λ v. nat_lt (station_of v) n) h) e in
    let rest = below_all n h parts.1 in
    let here : one_if (nat_lt (station_of v) n) ≡ 1 = ap one_if parts.0 in
    omega (arith, here, rest)

-- where no log is longer, the history is not
pub fewer_by_logs : (n : ℕ) (h k : History) → list_all (λ v. nat_lt (station_of v) n) h ≡ true
    → ((s : ℕ) → length (log_at s h) ≤ length (log_at s k)) → length h ≤ length k
fewer_by_logs n h k within le =
    omega (arith, below_all n h within, below_le n h k le, count_most (λ v. nat_lt (station_of v) n) k)

log_filtered : (s : ℕ) (f : Event → Bool) (h : History) → log_at s (filter f h) ≡ filter f (log_at s h)
unfolding log_at
log_filtered s f [] = refl
log_filtered s f (v ∷ h) =
    let rest = log_filtered s f h in
    elim (f v) as (λ a. f v ≡ a → log_at s (cond a (v ∷ filter f h) (filter f h)) ≡ filter f (log_at s (v ∷ h))) [
      | true ↦ λ on. elim (nat_eq (station_of v) s) as (λ b. cond b (v ∷ log_at s (filter f h)) (log_at s (filter f h)) ≡ filter f (cond b (v ∷ log_at s h) (log_at s h))) [
        | true ↦ ap (λ l. v ∷ l) rest ∙ sym (ap (λ (b : Bool). cond b (v ∷ filter f (log_at s h)) (filter f (log_at s h))) on)
        | false ↦ rest
      ]
      | false ↦ λ off. elim (nat_eq (station_of v) s) as (λ b. log_at s (filter f h) ≡ filter f (cond b (v ∷ log_at s h) (log_at s h))) [
        | true ↦ rest ∙ sym (ap (λ (b : Bool). cond b (v ∷ filter f (log_at s h)) (filter f (log_at s h))) off)
        | false ↦ rest
      ]
    ] refl

-- what adds to a log has, beside some events that none of the log is, as many as the log
or_off : (a b : Bool) → (a || b) ≡ false → (a ≡ false) × (b ≡ false)
or_off true b e = absurd (cc)
or_off false b e = (refl, e)

not_off : (a : Bool) → a ≡ false → not a ≡ true
not_off a e = ap not e

adds_beside : (may f : Event → Bool) (l k : History) → AddsTo may l k → list_any f l ≡ false → length l ≤ length (filter (λ v. not (f v)) k)
adds_beside may f l [] adds none = let same : length l ≡ 0 = ap length adds in omega (arith, same)
adds_beside may f l (v ∷ k) adds none =
    ⊎_elim
    (λ (new : (may v ≡ true) × AddsTo may l k).
    let rest = adds_beside may f l k new.1 none in
    elim (not (f v)) as (λ b. length l ≤ length (cond b (v ∷ filter (λ v. not (f v)) k) (filter (λ v. not (f v)) k))) [
      | true ↦ omega (arith, rest)
      | false ↦ rest
    ])
    (λ (old : (g : History) × (l ≡ v ∷ g) × AddsTo may g k).
    let parts = or_off (f v) (list_any f old.0) (sym (ap (list_any f) old.1) ∙ none) in
    let rest = adds_beside may f old.0 k old.2 parts.1 in
    let long : length l ≡ suc (length old.0) = ap length old.1 in
    let here : length (filter (λ v. not (f v)) (v ∷ k)) ≡ suc (length (filter (λ v. not (f v)) k)) =
    ap (λ (b : Bool). length (cond b (v ∷ filter (λ v. not (f v)) k) (filter (λ v. not (f v)) k))) (not_off (f v) parts.0) in
    omega (arith, rest, long, here))
    adds

-- ---- each missing send is one of its own

below_later : (n : ℕ) (xs : List MissingSend) → Every (λ (lack : MissingSend). lack.entry < n) xs → Every (λ (lack : MissingSend). lack.entry < suc n) xs
below_later n [] all = tt
below_later n (x ∷ xs) all = let less : x.entry < n = all.0 in (omega (arith, less), below_later n xs all.1)

lacks_rise : (r : PlainRecording) (n : ℕ) → Every (λ (lack : MissingSend). lack.entry < n) (missing_sends_below r n)
unfolding missing_sends_below
lacks_rise r zero = tt
lacks_rise r (suc n) =
    every-append (λ (lack : MissingSend). lack.entry < suc n) (missing_sends_below r n) (option_to_list (missing_send_at r n)) (below_later n (missing_sends_below r n) (lacks_rise r n)) (here r n)
  where
    here : (r : PlainRecording) (n : ℕ) → Every (λ (lack : MissingSend). lack.entry < suc n) (option_to_list (missing_send_at r n))
    here r n = elim (missing_at r n) as (λ o. Every (λ (lack : MissingSend). lack.entry < suc n) (option_to_list (option_map (missing_send_by n) o))) [
      | None ↦ tt
      | Some m ↦ (omega arith, tt)
    ]

-- a lack of the entries before does not lack the same datagram
first_apart : (r : PlainRecording) (n : ℕ) (lack : MissingSend) → IsLackOf r lack → lack.entry ≡ n → (xs : List MissingSend) → Every (IsLackOf r) xs
    → Every (λ (x : MissingSend). x.entry < n) xs → (v : Event) → sends_some r xs v ≡ true → is_this_missing_send r v lack ≡ true → ⊥
first_apart r n lack of at [] all rise v one other = absurd (cc)
first_apart r n lack of at (x ∷ xs) all rise v one other =
    ⊎_elim
    (λ (here : is_this_missing_send r v x ≡ true).
    let same : Send x.missing.sender (bytes_at r x.entry) ≡ Send lack.missing.sender (bytes_at r lack.entry) =
    sym (is_send x.missing.sender (bytes_at r x.entry) v here) ∙ is_send lack.missing.sender (bytes_at r lack.entry) v other in
    let bytes : of.lacking.bytes ≡ all.0.lacking.bytes = sym (bytes_there r lack of) ∙ ap sent_bytes (sym same) ∙ bytes_there r x all.0 in
    let gets : gets_bytes r of.lacking.bytes x.entry ≡ true =
    gets_here r x.entry all.0.lacking.station all.0.lacking.stamp of.lacking.bytes all.0.lacking.bytes all.0.lacking.got
    ∙ ap (bytes_eq of.lacking.bytes) (sym bytes) ∙ bytes_same of.lacking.bytes in
    none_passes (gets_bytes r of.lacking.bytes) lack.entry x.entry (none_is _ of.lacking.first) (omega (arith, at, rise.0)) gets)
    (λ (there : sends_some r xs v ≡ true). first_apart r n lack of at xs all.1 rise.1 v there other)
    (or_cases _ _ one)
  where
    sent_bytes : Event → List ℕ
    sent_bytes (Send s b) = b
    sent_bytes (Get s b) = b
    sent_bytes (Tell s e y) = []

    none_is : (o : Option ℕ) → is_none o ≡ true → o ≡ None
    none_is None e = refl
    none_is (Some k) e = absurd (cc)

any_one : (r : PlainRecording) (xs : List MissingSend) (lack : MissingSend) (v : Event) → sends_some r (xs ++ lack ∷ []) v ≡ (sends_some r xs v || is_this_missing_send r v lack)
any_one r [] lack v = or_false (is_this_missing_send r v lack)
  where
    or_false : (b : Bool) → (b || false) ≡ b
    or_false true = refl
    or_false false = refl
any_one r (x ∷ xs) lack v =
    ap (λ b. is_this_missing_send r v x || b) (any_one r xs lack v) ∙ sym (or_assoc (is_this_missing_send r v x) (sends_some r xs v) (is_this_missing_send r v lack))
  where
    or_assoc : (a b c : Bool) → ((a || b) || c) ≡ (a || (b || c))
    or_assoc true b c = refl
    or_assoc false b c = refl

-- so each is a further event of a history that has them all
many_sends : (r : PlainRecording) (w : History) → ((lack : MissingSend) → IsLackOf r lack → 1 ≤ count (λ v. is_this_missing_send r v lack) w)
    → (n : ℕ) → length (missing_sends_below r n) ≤ count (sends_some r (missing_sends_below r n)) w
unfolding missing_sends_below
many_sends r w has zero = omega arith
many_sends r w has (suc n) =
    let xs : List MissingSend = missing_sends_below r n in
    let before : length xs ≤ count (sends_some r xs) w = many_sends r w has n in
    elim (missing_at r n) as (λ o. missing_at r n ≡ o
    → length (xs ++ option_to_list (option_map (missing_send_by n) o)) ≤ count (sends_some r (xs ++ option_to_list (option_map (missing_send_by n) o))) w) [
      | None ↦ λ _. subst (λ ys. length ys ≤ count (sends_some r ys) w) (sym (append-nil xs)) before
      | Some m ↦ λ is.
          let lack : MissingSend = missing_send_by n m in
          let of : IsLackOf r lack = record { is = is; lacking = lacking r n m is } in
          let parts : count (sends_some r (xs ++ lack ∷ [])) w ≡ count (sends_some r xs) w + count (λ v. is_this_missing_send r v lack) w =
          count_same (sends_some r (xs ++ lack ∷ [])) (λ v. sends_some r xs v || is_this_missing_send r v lack) (any_one r xs lack) w
          ∙ count_or (sends_some r xs) (λ v. is_this_missing_send r v lack) (first_apart r n lack of refl xs (all_lacks r n) (lacks_rise r n)) w in
          let one : 1 ≤ count (λ v. is_this_missing_send r v lack) w = has lack of in
          let longer : length (xs ++ lack ∷ []) ≡ length xs + 1 = length-append xs (lack ∷ []) in
          omega (arith, before, parts, one, longer)
    ] refl

-- ---- the logs of the recording have none of them

-- what some event of a history passes
some_event : (f : Event → Bool) (h : History) → list_any f h ≡ true → (v : Event) × (before : History) × Contains h before v × (f v ≡ true)
some_event f [] e = absurd (cc)
some_event f (v ∷ h) e =
    ⊎_elim
    (λ (here : f v ≡ true). (v, h, ([], refl), here))
    (λ (there : list_any f h ≡ true).
    let found = some_event f h there in (found.0, found.1, (v ∷ found.2.0, ap (λ k. v ∷ k) found.2.1), found.3))
    (or_cases _ _ e)

pub some_lack : (r : PlainRecording) (P : MissingSend → Type 0) (xs : List MissingSend) (v : Event) → Every P xs → sends_some r xs v ≡ true
    → (lack : MissingSend) × P lack × (is_this_missing_send r v lack ≡ true)
some_lack r P [] v all e = absurd (cc)
some_lack r P (x ∷ xs) v all e =
    ⊎_elim
    (λ (here : is_this_missing_send r v x ≡ true). (x, all.0, here))
    (λ (there : sends_some r xs v ≡ true). some_lack r P xs v all.1 there)
    (or_cases _ _ e)

none_here : (r : PlainRecording) (s : ℕ) → list_any (sends_some r (missing_sends r)) (log_of r s) ≡ false
none_here r s =
    elim (list_any (sends_some r (missing_sends r)) (log_of r s)) as (λ b. list_any (sends_some r (missing_sends r)) (log_of r s) ≡ b → b ≡ false) [
      | false ↦ λ _. refl
      | true ↦ λ some.
          let found = some_event (sends_some r (missing_sends r)) (log_of r s) some in
          let v : Event = found.0 in
          let by = some_lack r (IsLackOf r) (missing_sends r) v (all_lacks r (length r.entries)) found.3 in
          let t : ℕ = by.0.missing.sender in
          let b : List ℕ = by.1.lacking.bytes in
          let is : v ≡ Send t b = is_send t (bytes_at r by.0.entry) v by.2 ∙ ap (Send t) (bytes_there r by.0 by.1) in
          let entry = in_log r s (length r.entries) found.1 v found.2.0 (found.2.1 ∙ sym (log_before-all r s)) in
          let own = own_entry r s entry.0 v entry.2.own in
          let station : t ≡ s = sym (ap station_of is) ∙ own.station in
          let sent : HasSend r s b = (found.1, subst (λ u. Contains (log_of r s) found.1 u) (is ∙ ap (λ k. Send k b) station) found.2) in
          absurd (lacks_send r by.0.entry by.0.missing by.1.lacking (subst (λ k. HasSend r k b) (sym station) sent))
    ] refl

-- NO FEWER ENTRIES DO
pub fewer_do_not : (r wide : PlainRecording) (h : History) → IsRecording r → IsRecording wide → IsWider r wide → Explains wide h
    → length r.entries + length (missing_sends r) ≤ length wide.entries
unfolding log_of
fewer_do_not r wide h limits good wider explains =
    let w : History = past wide.entries in
    let f : Event → Bool = sends_some r (missing_sends r) in
    let has : (lack : MissingSend) → IsLackOf r lack → 1 ≤ count (λ v. is_this_missing_send r v lack) w =
    λ lack of.
    let need = needed r wide h lack.entry lack.missing good wider explains of.is in
    let bytes : need.bytes ≡ bytes_at r lack.entry = sym (bytes_received r lack.entry need.station need.stamp need.bytes need.got) in
    let t : ℕ = lack.missing.sender in
    let sent : HasSend wide t (bytes_at r lack.entry) = subst (HasSend wide t) bytes need.sent in
    let one : 1 ≤ count (λ v. is_this_missing_send r v lack) (log_at t w) =
    subst (λ l. 1 ≤ count (λ v. is_this_missing_send r v lack) l) sent.1.1
    (count_in (λ v. is_this_missing_send r v lack) sent.1.0 sent.0 (Send t (bytes_at r lack.entry)) (send_is t (bytes_at r lack.entry))) in
    omega (arith, one, count_log (λ v. is_this_missing_send r v lack) t w) in
    let many : length (missing_sends r) ≤ count f w = many_sends r w has (length r.entries) in
    let logs : (s : ℕ) → length (log_at s (past r.entries)) ≤ length (log_at s (filter (λ v. not (f v)) w)) =
    λ s. subst (λ l. length (log_at s (past r.entries)) ≤ length l) (sym (log_filtered s (λ v. not (f v)) w))
    (adds_beside anything f (log_at s (past r.entries)) (log_at s w) (wider.logs s) (none_here r s)) in
    let fewer : length (past r.entries) ≤ length (filter (λ v. not (f v)) w) =
    fewer_by_logs (length r.setting.stations) (past r.entries) (filter (λ v. not (f v)) w) (past_within r limits) logs in
    omega (arith, many, fewer, count_not f w, length-past r.entries, length-past wide.entries)
