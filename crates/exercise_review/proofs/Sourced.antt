-- Where answers were received, told by the entries that they come from: of each entry the first and the last.
use Rattle.std.proofs.Common.{◌≡◌, ⊎_elim, ℕ, zero, suc, ◌+◌, ◌<◌, ◌≤◌, List, length, Bool, true, false, Option, Some, None, refl, sym, ap, ◌∙◌, subst, arith}
use Rattle.std.specs.Prelude.{◌&&◌, ◌==◌, bytes_eq, slice_get, slice_index_or, is_some, is_none, IfSome, option_map, option_and_then, if◌then◌else◌}
use Rattle.std.specs.Option.{option_map_or, option_or}
use Rattle.std.specs.Cmp.Lexicographic.{bytes_decides}
use Rattle.std.proofs.Math.ListN.{get_or-eq_default}
use Rattle.std.proofs.lemmas.Bool.{and_parts, cases_lt, eqb-true, eq-eqb, ne_eqb}
use Rattle.std.proofs.lemmas.Option.{same_Some, slice_get_within}
use Rattle.dis_records.specs.declared.entity_state.EntityState.{EntityState}
use Rattle.siman_pdus.specs.Answers.{same_id}
use Rattle.exercise_model.specs.Account.{pair_of_entry, pair_of}
use Rattle.exercise_model.specs.Entry.{Entry, Sent, Received, Told}
use Rattle.exercise_model.specs.History.{event_of, station_of}
use Rattle.exercise_model.specs.Meaning.{meaning}
use Rattle.exercise_model.specs.Place.{first_below}
use Rattle.exercise_model.specs.Recording.{PlainRecording}
use Rattle.exercise_model.specs.Setting.{is_open}
use Rattle.exercise_model.proofs.Offered.{first_found}
use Rattle.exercise_findings.specs.Number.{entry_of}
use Rattle.exercise_findings.specs.Source.{source_of_pdu, source_of_bytes, source_of_entry, source_of}
use Rattle.exercise_findings.proofs.Offered.{source_here}
use Rattle.exercise_review.specs.declared.reply.Reply.{Reply}
use Rattle.exercise_review.specs.declared.sources.SourceColumns.{SourceColumns}
use Rattle.exercise_review.specs.Counted.{last_below}
use Rattle.exercise_review.specs.Entries.{bytes_of, bytes_received_by, bytes_sent, bytes_received}
use Rattle.exercise_review.specs.Heard.{gets_in}
use Rattle.exercise_review.specs.Order.{OrderData}
use Rattle.exercise_review.specs.Party.{is_copy}
use Rattle.exercise_review.specs.Records.{entry_places}
use Rattle.exercise_review.specs.Register.{key_at, no_entry}
use Rattle.exercise_review.specs.Reply.{is_reply}
use Rattle.exercise_review.specs.Sourced.{is_keyless_source, entry_in, AreColumns, is_unreceived, AreWhole, IsAnswerIn}
use Rattle.exercise_review.proofs.FirstOnes.{off}
use Rattle.exercise_review.proofs.Heard.{is_there}
use Rattle.exercise_review.proofs.Moved.{source_sends, key_received, no_order, got_entry, sent_entry}
use Rattle.exercise_review.proofs.Paired.{paired}
use Rattle.exercise_review.proofs.Receiving.{first_more, last_more, still_first, still_last}
use Rattle.exercise_review.proofs.Runs.{there, none_passes}
use Rattle.exercise_review.proofs.Walks.{found_alike}

-- ---- numbers in a column

-- a number below the one that stands for none stands for itself
number_read : (n : ℕ) → n < no_entry → entry_of n ≡ Some n
number_read n few = ap (λ b. if b then None else Some n) (ne_eqb n no_entry (λ e. absurd (omega (arith, few, e))))

-- and so does each that stands for something
pub number_kept : (n : ℕ) → is_some (entry_of n) ≡ true → Some n ≡ entry_of n
number_kept n some = elim (n == 0xFFFFFFFF) as (λ b. is_some (if b then None else Some n) ≡ true → Some n ≡ (if b then None else Some n)) [
  | true ↦ λ h. absurd (let no : false ≡ true = h in cc)
  | false ↦ λ h. refl
] some

-- number n was put in the place of entry j
abbrev pub IsPut : (old new : List ℕ) → (j n : ℕ) → Type 0
IsPut old new j n = (k : ℕ) → slice_index_or new k no_entry ≡ (if k == j then n else slice_index_or old k no_entry)

put_here : (old new : List ℕ) (j n : ℕ) → n < no_entry → IsPut old new j n → entry_in new j ≡ Some n
put_here old new j n few put = ap entry_of (put j ∙ ap (λ b. if b then n else slice_index_or old j no_entry) (eq-eqb j j refl)) ∙ number_read n few

put_elsewhere : (old new : List ℕ) (j n k : ℕ) → (k ≡ j → ⊥) → IsPut old new j n → entry_in new k ≡ entry_in old k
put_elsewhere old new j n k other put = ap entry_of (put k ∙ ap (λ b. if b then n else slice_index_or old k no_entry) (ne_eqb k j other))

-- what holds of entry j and of each other holds of all
by_entry : (P : ℕ → Type 0) (j : ℕ) → P j → ((k : ℕ) → (k ≡ j → ⊥) → P k) → (k : ℕ) → P k
by_entry P j here others k = elim (k == j) as (λ b. (k == j) ≡ b → P k) [
  | true ↦ λ e. subst P (sym (eqb-true k j e)) here
  | false ↦ λ e. others k (λ same. absurd (let no : false ≡ true = sym e ∙ eq-eqb k j same in cc))
] refl

-- ---- what comes from an entry

pub from_source : (r : PlainRecording) (i j : ℕ) → key_at r i ≡ None → source_of r i ≡ Some j → is_keyless_source r j i ≡ true
unfolding is_keyless_source
from_source r i j key source =
    ap (λ (o : Option ℕ). is_none o && same_id (source_of r i) (Some j)) key ∙ ap (λ o. same_id o (Some j)) source ∙ eq-eqb j j refl

from_other : (r : PlainRecording) (i j k : ℕ) → key_at r i ≡ None → source_of r i ≡ Some j → (k ≡ j → ⊥) → is_keyless_source r k i ≡ false
unfolding is_keyless_source
from_other r i j k key source other =
    ap (λ (o : Option ℕ). is_none o && same_id (source_of r i) (Some k)) key ∙ ap (λ o. same_id o (Some k)) source ∙ ne_eqb j k (λ same. other (sym same))

pub from_keyed : (r : PlainRecording) (i : ℕ) → is_some (key_at r i) ≡ true → (j : ℕ) → is_keyless_source r j i ≡ false
unfolding is_keyless_source
from_keyed r i keyed j = elim (key_at r i) as (λ o. is_some o ≡ true → (is_none o && same_id (source_of r i) (Some j)) ≡ false) [
  | None ↦ λ h. absurd (let no : false ≡ true = h in cc)
  | Some k ↦ λ h. refl
] keyed

pub from_nowhere : (r : PlainRecording) (i : ℕ) → source_of r i ≡ None → (j : ℕ) → is_keyless_source r j i ≡ false
unfolding is_keyless_source
from_nowhere r i none j =
    ap (λ o. is_none (key_at r i) && same_id o (Some j)) none
    ∙ elim (is_none (key_at r i)) as (λ b. (b && false) ≡ false) [ true ↦ refl | false ↦ refl ]

pub source_other : (r : PlainRecording) (i s : ℕ) (b : List ℕ) → bytes_received r s i ≡ Some b → meaning r.setting.exercise b ≡ None → source_of r i ≡ None
source_other r i s b got other =
    let at = got_entry r s i b got in
    source_here r i (Received s at.0 b) at.1 ∙ ap (option_and_then (source_of_pdu r b)) other

pub source_below : (r : PlainRecording) (i j s : ℕ) (b : List ℕ) → bytes_received r s i ≡ Some b → source_of r i ≡ Some j → j < length r.entries
source_below r i j s b got source =
    let at = got_entry r s i b got in
    let from = source_sends r i j s at.0 b at.1 source in
    slice_get_within r.entries j (Sent from.2.0 from.2.1.0 b) from.2.1.1

pub sent_nowhere : (r : PlainRecording) (i s stamp : ℕ) (b : List ℕ) → slice_get r.entries i ≡ Some (Sent s stamp b) → (j : ℕ) → is_keyless_source r j i ≡ false
sent_nowhere r i s stamp b at = from_nowhere r i (source_here r i (Sent s stamp b) at)

pub told_nowhere : (r : PlainRecording) (i s e : ℕ) (y : EntityState) → slice_get r.entries i ≡ Some (Told s e y) → (j : ℕ) → is_keyless_source r j i ≡ false
told_nowhere r i s e y at = from_nowhere r i (source_here r i (Told s e y) at)

-- ---- one entry more

pub sources_none : (r : PlainRecording) (x : SourceColumns) → length x.first.items ≡ 0 → length x.last.items ≡ 0 → is_open r.setting.form ≡ false → AreColumns r 0 x
unfolding first_below last_below
sources_none r x first last closed = record {
  closed = closed;
  first = λ j. ap entry_of (get_or-eq_default x.first.items no_entry {n = j} (omega (arith, first)));
  last = λ j. ap entry_of (get_or-eq_default x.last.items no_entry {n = j} (omega (arith, last)));
  place = λ j f i found below comes. absurd (omega (arith, below));
}

before_it : (f : ℕ → Bool) (n i : ℕ) → f n ≡ false → i < n + 1 → f i ≡ true → i < n
before_it f n i fails within passes = ⊎_elim
    (λ (less : i < n). less)
    (λ (from : n ≤ i). let same : i ≡ n = omega (arith, from, within) in absurd (let no : true ≡ false = sym passes ∙ ap f same ∙ fails in cc))
    (cases_lt i n)

-- what comes from elsewhere leaves the place of an entry as it is
place_still : (r : PlainRecording) (n j : ℕ) (x : SourceColumns) → is_keyless_source r j n ≡ false → AreColumns r n x
    → (f i : ℕ) → first_below (is_keyless_source r j) (n + 1) ≡ Some f → i < n + 1 → is_keyless_source r j i ≡ true → entry_places r i ≡ entry_places r f
place_still r n j x fails so_far f i found below comes =
    so_far.place j f i (still_first (is_keyless_source r j) n (first_below (is_keyless_source r j) n) fails refl ∙ found) (before_it (is_keyless_source r j) n i fails below comes) comes

-- an entry that comes from none
pub sources_still : (r : PlainRecording) (n : ℕ) (x : SourceColumns) → ((j : ℕ) → is_keyless_source r j n ≡ false) → AreColumns r n x → AreColumns r (n + 1) x
sources_still r n x none so_far = record {
  closed = so_far.closed;
  first = λ j. still_first (is_keyless_source r j) n (entry_in x.first.items j) (none j) (so_far.first j);
  last = λ j. still_last (is_keyless_source r j) n (entry_in x.last.items j) (none j) (so_far.last j);
  place = λ j. place_still r n j x (none j) so_far;
}

-- the first that comes from entry j
pub sources_begun : (r : PlainRecording) (n j : ℕ) (old new : SourceColumns) → n < no_entry → key_at r n ≡ None → source_of r n ≡ Some j
    → entry_in old.first.items j ≡ None → IsPut old.first.items new.first.items j n → IsPut old.last.items new.last.items j n
    → AreColumns r n old → AreColumns r (n + 1) new
sources_begun r n j old new few key source none first last so_far = record {
  closed = so_far.closed;
  first = by_entry (λ k. entry_in new.first.items k ≡ first_below (is_keyless_source r k) (n + 1)) j
      (put_here old.first.items new.first.items j n few first ∙ sym now_first)
      (λ k other. still_first (is_keyless_source r k) n (entry_in new.first.items k) (from_other r n j k key source other)
      (put_elsewhere old.first.items new.first.items j n k other first ∙ so_far.first k));
  last = by_entry (λ k. entry_in new.last.items k ≡ last_below (is_keyless_source r k) (n + 1)) j
      (put_here old.last.items new.last.items j n few last ∙ sym (last_more (is_keyless_source r j) n true comes))
      (λ k other. still_last (is_keyless_source r k) n (entry_in new.last.items k) (from_other r n j k key source other)
      (put_elsewhere old.last.items new.last.items j n k other last ∙ so_far.last k));
  place = by_entry (λ k. (f i : ℕ) → first_below (is_keyless_source r k) (n + 1) ≡ Some f → i < n + 1 → is_keyless_source r k i ≡ true → entry_places r i ≡ entry_places r f) j
      place_here
      (λ k other. place_still r n k old (from_other r n j k key source other) so_far);
}
  where
    comes : is_keyless_source r j n ≡ true
    comes = from_source r n j key source

    before : first_below (is_keyless_source r j) n ≡ None
    before = sym (so_far.first j) ∙ none

    now_first : first_below (is_keyless_source r j) (n + 1) ≡ Some n
    now_first = first_more (is_keyless_source r j) n true comes ∙ ap (λ o. option_or o (Some n)) before

    place_here : (f i : ℕ) → first_below (is_keyless_source r j) (n + 1) ≡ Some f → i < n + 1 → is_keyless_source r j i ≡ true → entry_places r i ≡ entry_places r f
    place_here f i found below passes = ⊎_elim
        (λ (less : i < n). absurd (none_passes (is_keyless_source r j) n i (ap is_some before) less passes))
        (λ (from : n ≤ i). let same : i ≡ n = omega (arith, from, below) in ap (entry_places r) (same ∙ same_Some n f (sym now_first ∙ found)))
        (cases_lt i n)

-- one more that comes from entry j, at the same station as the first
pub sources_on : (r : PlainRecording) (n j first : ℕ) (old new : SourceColumns) → n < no_entry → key_at r n ≡ None → source_of r n ≡ Some j
    → entry_in old.first.items j ≡ Some first → entry_places r n ≡ entry_places r first → new.first.items ≡ old.first.items → IsPut old.last.items new.last.items j n
    → AreColumns r n old → AreColumns r (n + 1) new
sources_on r n j first old new few key source found_there same_place kept last so_far = record {
  closed = so_far.closed;
  first = by_entry (λ k. entry_in new.first.items k ≡ first_below (is_keyless_source r k) (n + 1)) j
      (ap (λ (xs : List ℕ). entry_in xs j) kept ∙ found_there ∙ sym now_first)
      (λ k other. still_first (is_keyless_source r k) n (entry_in new.first.items k) (from_other r n j k key source other)
      (ap (λ (xs : List ℕ). entry_in xs k) kept ∙ so_far.first k));
  last = by_entry (λ k. entry_in new.last.items k ≡ last_below (is_keyless_source r k) (n + 1)) j
      (put_here old.last.items new.last.items j n few last ∙ sym (last_more (is_keyless_source r j) n true comes))
      (λ k other. still_last (is_keyless_source r k) n (entry_in new.last.items k) (from_other r n j k key source other)
      (put_elsewhere old.last.items new.last.items j n k other last ∙ so_far.last k));
  place = by_entry (λ k. (f i : ℕ) → first_below (is_keyless_source r k) (n + 1) ≡ Some f → i < n + 1 → is_keyless_source r k i ≡ true → entry_places r i ≡ entry_places r f) j
      place_here
      (λ k other. place_still r n k old (from_other r n j k key source other) so_far);
}
  where
    comes : is_keyless_source r j n ≡ true
    comes = from_source r n j key source

    before : first_below (is_keyless_source r j) n ≡ Some first
    before = sym (so_far.first j) ∙ found_there

    now_first : first_below (is_keyless_source r j) (n + 1) ≡ Some first
    now_first = first_more (is_keyless_source r j) n true comes ∙ ap (λ o. option_or o (Some n)) before

    place_here : (f i : ℕ) → first_below (is_keyless_source r j) (n + 1) ≡ Some f → i < n + 1 → is_keyless_source r j i ≡ true → entry_places r i ≡ entry_places r f
    place_here f i found below passes =
        let same_first : first ≡ f = same_Some first f (sym now_first ∙ found) in
        ⊎_elim
        (λ (less : i < n). so_far.place j first i before less passes)
        (λ (from : n ≤ i). let same : i ≡ n = omega (arith, from, below) in ap (entry_places r) same ∙ same_place)
        (cases_lt i n)
        ∙ ap (entry_places r) same_first

-- what is kept for an entry lies below n
pub first_within : (r : PlainRecording) (n j f : ℕ) (x : SourceColumns) → AreColumns r n x → entry_in x.first.items j ≡ Some f → f < n
first_within r n j f x tells found = (first_found (is_keyless_source r j) n f (sym (tells.first j) ∙ found)).below

-- ---- bytes

gets_bytes : (r : PlainRecording) (s i : ℕ) (b : List ℕ) → gets_in r s b i ≡ true → bytes_received r s i ≡ Some b
unfolding gets_in
gets_bytes r s i b h =
    let got = there (bytes_eq b) (bytes_received r s i) h in
    got.1 ∙ ap Some (sym ((bytes_decides b got.0).0 got.2))

gets_back : (r : PlainRecording) (s i : ℕ) (b : List ℕ) → bytes_received r s i ≡ Some b → gets_in r s b i ≡ true
unfolding gets_in
gets_back r s i b got = ap (λ o. option_map_or (bytes_eq b) o false) got ∙ (bytes_decides b b).1 refl

pub got_bytes : (r : PlainRecording) (i s stamp : ℕ) (b : List ℕ) → slice_get r.entries i ≡ Some (Received s stamp b) → bytes_received r s i ≡ Some b
unfolding bytes_received
got_bytes r i s stamp b at = ap (option_and_then (bytes_received_by s)) at ∙ ap (λ c. if c then Some b else None) (eq-eqb s s refl)

pub place_got : (r : PlainRecording) (s i : ℕ) (b : List ℕ) → bytes_received r s i ≡ Some b → entry_places r i ≡ Some s
unfolding entry_places
place_got r s i b got = ap (option_map (λ e. station_of (event_of e))) (got_entry r s i b got).1

pub place_there : (r : PlainRecording) (i : ℕ) (e : Entry) → slice_get r.entries i ≡ Some e → entry_places r i ≡ Some (station_of (event_of e))
unfolding entry_places
place_there r i e at = ap (option_map (λ e. station_of (event_of e))) at

source_got : (r : PlainRecording) (s i : ℕ) (b : List ℕ) → bytes_received r s i ≡ Some b → source_of r i ≡ source_of_bytes r b
source_got r s i b got = let at = got_entry r s i b got in source_here r i (Received s at.0 b) at.1

comes_source : (r : PlainRecording) (j i : ℕ) → is_keyless_source r j i ≡ true → source_of r i ≡ Some j
unfolding is_keyless_source
comes_source r j i comes = same_is (source_of r i) (and_parts (is_none (key_at r i)) _ comes).1
  where
    same_is : (o : Option ℕ) → same_id o (Some j) ≡ true → o ≡ Some j
    same_is None h = absurd (let no : false ≡ true = h in cc)
    same_is (Some x) h = ap Some (eqb-true x j h)

-- what comes from an entry has the bytes that are sent there
source_bytes : (r : PlainRecording) (t j i : ℕ) (b : List ℕ) → bytes_sent r t j ≡ Some b → source_of r i ≡ Some j → (s : ℕ) × (bytes_received r s i ≡ Some b)
unfolding source_of
source_bytes r t j i b sent source = of_entry (slice_get r.entries i) refl
  where
    same_bytes : (u : ℕ) (c : List ℕ) → (stamp : ℕ) × (slice_get r.entries j ≡ Some (Sent u stamp c)) → c ≡ b
    same_bytes u c send = same_Some c b (ap (option_and_then bytes_of) (sym send.1 ∙ (sent_entry r t j b sent).1))

    of_entry : (o : Option Entry) → slice_get r.entries i ≡ o → (s : ℕ) × (bytes_received r s i ≡ Some b)
    of_entry None at = absurd (let no : None ≡ Some j = sym (ap (option_and_then (source_of_entry r)) at) ∙ source in cc)
    of_entry (Some (Sent s stamp c)) at = absurd (let no : None ≡ Some j = sym (source_here r i (Sent s stamp c) at) ∙ source in cc)
    of_entry (Some (Received s stamp c)) at =
        let from = source_sends r i j s stamp c at source in
        (s, got_bytes r i s stamp c at ∙ ap Some (same_bytes from.2.0 c from.2.1))
    of_entry (Some (Told s e y)) at = absurd (let no : None ≡ Some j = sym (source_here r i (Told s e y) at) ∙ source in cc)

-- what has the bytes of an answer comes from it, where that is their source
comes_back : (r : PlainRecording) (t j k s i : ℕ) (b : List ℕ) → is_open r.setting.form ≡ false → bytes_sent r t j ≡ Some b → pair_of r j ≡ Some k
    → source_of_bytes r b ≡ Some j → bytes_received r s i ≡ Some b → is_keyless_source r j i ≡ true
comes_back r t j k s i b closed sent pair whole got =
    let p = paired r t j k b sent pair in
    let at = got_entry r s i b got in
    from_source r i j (key_received r i s at.0 b p.0 at.1 closed p.1 ∙ no_order s p.0 p.2) (source_got r s i b got ∙ whole)

-- ---- columns that tell all

below_same : (f g : ℕ → Bool) (n : ℕ) → ((i : ℕ) → i < n → f i ≡ g i) → (first_below f n ≡ first_below g n) × (last_below f n ≡ last_below g n)
unfolding first_below last_below
below_same f g zero same = (refl, refl)
below_same f g (suc n) same =
    let before = below_same f g n (λ i l. same i (omega (arith, l))) in
    let here = same n (omega arith) in (
      ap (λ o. option_or o (if f n then Some n else None)) before.0 ∙ ap (λ (c : Bool). option_or (first_below g n) (if c then Some n else None)) here,
      ap (λ o. if f n then Some n else o) before.1 ∙ ap (λ (c : Bool). if c then Some n else last_below g n) here,
    )

never : (n : ℕ) → (first_below (λ i. false) n ≡ None) × (last_below (λ i. false) n ≡ None)
unfolding first_below last_below
never zero = (refl, refl)
never (suc n) = (ap (λ o. option_or o None) (never n).0, (never n).1)

below_none : (f : ℕ → Bool) (n : ℕ) → ((i : ℕ) → i < n → f i ≡ false) → (first_below f n ≡ None) × (last_below f n ≡ None)
below_none f n none = let same = below_same f (λ i. false) n none in (same.0 ∙ (never n).0, same.1 ∙ (never n).1)

both_or_neither : (a b : Bool) → (a ≡ true → b ≡ true) → (b ≡ true → a ≡ true) → a ≡ b
both_or_neither true b f g = sym (f refl)
both_or_neither false true f g = g refl
both_or_neither false false f g = refl

some_entry : (o : Option ℕ) → is_some o ≡ true → (k : ℕ) × (o ≡ Some k)
some_entry None h = absurd (let no : false ≡ true = h in cc)
some_entry (Some k) h = (k, refl)

-- what has the bytes of the answer that is sent at entry j comes from there, and what comes from there has these bytes
record IsHeardOf (r : PlainRecording) (j f : ℕ) (b : List ℕ) : Type 0 where
  back : (s i : ℕ) → bytes_received r s i ≡ Some b → is_keyless_source r j i ≡ true
  on : (i : ℕ) → is_keyless_source r j i ≡ true → (s : ℕ) × (bytes_received r s i ≡ Some b)
  place : (i : ℕ) → i < length r.entries → is_keyless_source r j i ≡ true → entry_places r i ≡ entry_places r f

heard_of : (r : PlainRecording) (x : SourceColumns) (j f : ℕ) (b : List ℕ) → AreColumns r (length r.entries) x → IsAnswerIn r j b → entry_in x.first.items j ≡ Some f
    → IsHeardOf r j f b
heard_of r x j f b tells answer at =
    let t : ℕ = answer.0.0 in
    let sent = answer.0.1 in
    let pair = some_entry (pair_of r j) answer.1 in
    let found : first_below (is_keyless_source r j) (length r.entries) ≡ Some f = sym (tells.first j) ∙ at in
    let source : source_of r f ≡ Some j = comes_source r j f (first_found (is_keyless_source r j) (length r.entries) f found).passes in
    let got = source_bytes r t j f b sent source in
    let whole : source_of_bytes r b ≡ Some j = sym (source_got r got.0 f b got.1) ∙ source in
    record {
      back = λ s i has. comes_back r t j pair.0 s i b tells.closed sent pair.1 whole has;
      on = λ i comes. source_bytes r t j i b sent (comes_source r j i comes);
      place = λ i below comes. tells.place j f i found below comes;
    }

-- AT THE STATION OF THE FIRST an answer was received where the columns say
pub heard_here : (r : PlainRecording) (x : SourceColumns) (j f s : ℕ) (b : List ℕ) → AreColumns r (length r.entries) x → IsAnswerIn r j b
    → entry_in x.first.items j ≡ Some f → entry_places r f ≡ Some s
    → (entry_in x.first.items j ≡ first_below (gets_in r s b) (length r.entries)) × (entry_in x.last.items j ≡ last_below (gets_in r s b) (length r.entries))
heard_here r x j f s b tells answer at place =
    let heard = heard_of r x j f b tells answer at in
    let same = below_same (is_keyless_source r j) (gets_in r s b) (length r.entries) (λ i below. both_or_neither (is_keyless_source r j i) (gets_in r s b i)
    (λ comes.
    let got = heard.on i comes in
    let station : got.0 ≡ s = same_Some got.0 s (sym (place_got r got.0 i b got.1) ∙ heard.place i below comes ∙ place) in
    gets_back r s i b (subst (λ u. bytes_received r u i ≡ Some b) station got.1))
    (λ gets. heard.back s i (gets_bytes r s i b gets))) in
    (tells.first j ∙ same.0, tells.last j ∙ same.1)

-- AT EACH OTHER it was not received
pub heard_elsewhere : (r : PlainRecording) (x : SourceColumns) (j f u s : ℕ) (b : List ℕ) → AreColumns r (length r.entries) x → IsAnswerIn r j b
    → entry_in x.first.items j ≡ Some f → entry_places r f ≡ Some u → (u ≡ s → ⊥)
    → (first_below (gets_in r s b) (length r.entries) ≡ None) × (last_below (gets_in r s b) (length r.entries) ≡ None)
heard_elsewhere r x j f u s b tells answer at place other =
    let heard = heard_of r x j f b tells answer at in
    below_none (gets_in r s b) (length r.entries) (λ i below. off (gets_in r s b i) (λ gets.
    let got = gets_bytes r s i b gets in
    other (same_Some u s (sym place ∙ sym (heard.place i below (heard.back s i got)) ∙ place_got r s i b got))))

-- where the first is told, so is the last
pub last_told : (r : PlainRecording) (n j f : ℕ) (x : SourceColumns) → AreColumns r n x → entry_in x.first.items j ≡ Some f → is_some (entry_in x.last.items j) ≡ true
last_told r n j f x tells found =
    ap is_some (tells.last j) ∙ found_alike (is_keyless_source r j) n ∙ ap is_some (sym (tells.first j) ∙ found)

-- ---- whether they tell all

pair_within : (r : PlainRecording) (i : ℕ) → is_some (pair_of r i) ≡ true → i < length r.entries
unfolding pair_of
pair_within r i paired = of_entry (slice_get r.entries i) refl paired
  where
    of_entry : (o : Option Entry) → slice_get r.entries i ≡ o → is_some (option_and_then (pair_of_entry r i) o) ≡ true → i < length r.entries
    of_entry None at h = absurd (let no : false ≡ true = h in cc)
    of_entry (Some e) at h = slice_get_within r.entries i e at

pub all_told : (r : PlainRecording) (x : SourceColumns) → AreColumns r (length r.entries) x → is_none (first_below (is_unreceived r x) (length r.entries)) ≡ true
    → AreWhole r x
unfolding is_unreceived
all_told r x tells none = record {
  tells = tells;
  each = λ i paired. told (entry_in x.first.items i) (λ lost.
      none_passes (is_unreceived r x) (length r.entries) i (nothing (first_below (is_unreceived r x) (length r.entries)) none) (pair_within r i paired)
      (ap (λ (b : Bool). b && is_none (entry_in x.first.items i)) paired ∙ lost));
}
  where
    nothing : (o : Option ℕ) → is_none o ≡ true → is_some o ≡ false
    nothing None h = refl
    nothing (Some k) h = absurd (let no : false ≡ true = h in cc)

    told : (o : Option ℕ) → (is_none o ≡ true → ⊥) → is_some o ≡ true
    told None lost = absurd (lost refl)
    told (Some k) lost = refl

pub alone_heard : (r : PlainRecording) (x : SourceColumns) (i : ℕ) → is_some (pair_of r i) ≡ false → is_unreceived r x i ≡ false
unfolding is_unreceived
alone_heard r x i none = ap (λ (b : Bool). b && is_none (entry_in x.first.items i)) none

pub kept_heard : (r : PlainRecording) (x : SourceColumns) (i : ℕ) → is_some (entry_in x.first.items i) ≡ true → is_unreceived r x i ≡ false
unfolding is_unreceived
kept_heard r x i kept = elim (is_some (pair_of r i)) as (λ b. (b && is_none (entry_in x.first.items i)) ≡ false) [
  | true ↦ there_is (entry_in x.first.items i) kept
  | false ↦ refl
]
  where
    there_is : (o : Option ℕ) → is_some o ≡ true → is_none o ≡ false
    there_is None h = absurd (let no : false ≡ true = h in cc)
    there_is (Some k) h = refl

-- one that was not received
pub one_unheard : (r : PlainRecording) (x : SourceColumns) (n i : ℕ) → i < n → is_some (pair_of r i) ≡ true → is_some (entry_in x.first.items i) ≡ false
    → false ≡ is_none (first_below (is_unreceived r x) n)
unfolding is_unreceived
one_unheard r x n i within paired lost =
    none (first_below (is_unreceived r x) n)
    (is_there (is_unreceived r x) n i within (ap (λ (b : Bool). b && is_none (entry_in x.first.items i)) paired ∙ missing (entry_in x.first.items i) lost))
  where
    none : (o : Option ℕ) → is_some o ≡ true → false ≡ is_none o
    none None h = absurd (let no : false ≡ true = h in cc)
    none (Some k) h = refl

    missing : (o : Option ℕ) → is_some o ≡ false → is_none o ≡ true
    missing None h = refl
    missing (Some k) h = absurd (let no : true ≡ false = h in cc)

-- ---- replies

-- a reply is an answer in its bytes
pub answer_there : (r : PlainRecording) (o : OrderData) (t j : ℕ) (found : Option Reply) → is_some found ≡ is_reply r o t j
    → IfSome found (λ (x : Reply). bytes_sent r t j ≡ Some x.bytes.now) → IfSome found (λ (x : Reply). IsAnswerIn r j x.bytes.now)
unfolding is_reply
answer_there r o t j None is sent = tt
answer_there r o t j (Some x) is sent =
    let taken = there (is_copy r o t) (pair_of r j) (and_parts _ _ (sym is)).1 in
    ((t, sent), ap is_some taken.1)
