-- What the slots of a repaired log show: sends that its logs lack, beside the entries as they are.
use Rattle.std.proofs.Common.{◌≡◌, inl, inr, ℕ, zero, suc, ◌<◌, ◌≤◌, List, [], ◌∷◌, ◌++◌, map, filter, length, cond, Bool, true, false, Option, Some, None, refl, sym, ap, ◌∙◌, subst, arith, append_assoc, append-nil}
use Rattle.std.specs.Prelude.{IfSome, slice_index_or, nat_eq, nat_le, not, ◌&&◌, ◌||◌, unwrap_or, option_map, option_and_then, if◌then◌else◌}
use Rattle.std.specs.Global.{Vec}
use Rattle.std.specs.Option.{option_map_or, option_to_list}
use Rattle.std.specs.List.{list_all, list_any}
use Rattle.std.proofs.lemmas.Bool.{eqb-true, lt-ltb}
use Rattle.indexmap.specs.IndexMap.{get, Updates}
use Rattle.std.proofs.lemmas.List.{length-map, map-append}
use Rattle.std.proofs.lemmas.Option.{get_or_from_slice_get, slice_get_within}
use Rattle.dis_records.specs.declared.header.TheConstants.{LARGEST_DATAGRAM}
use Rattle.exercise_model.specs.declared.recording.TheConstants.{MOST_ENTRIES}
use Rattle.exercise_model.specs.Entry.{Entry, Sent, Received, Told, is_entry, is_stamped}
use Rattle.exercise_model.specs.Recording.{PlainRecording, IsRecording}
use Rattle.exercise_model.specs.History.{Event, History, event_of, station_of, past, log_at, log_of, station_at}
use Rattle.exercise_model.specs.Setting.{is_from}
use Rattle.exercise_model.specs.Meaning.{meaning}
use Rattle.exercise_model.specs.Change.{able, responds}
use Rattle.exercise_model.specs.Place.{event_at, own_event, log_before}
use Rattle.exercise_model.specs.Account.{sender_of}
use Rattle.exercise_model.proofs.Offered.{all_at, first_found, log_at-append, log_before-all, log_before-more, log_before-none, past-append}
use Rattle.exercise_findings.proofs.Offered.{entry_within}
use Rattle.exercise_findings.specs.Missing.{missing_at}
use Rattle.exercise_conflict.specs.declared.lacks.MissingSend.{MissingSend}
use Rattle.exercise_conflict.specs.declared.repaired.RepairedEntry.{RepairedEntry}
use Rattle.exercise_conflict.specs.Lacks.{missing_send_by, missing_send_at, missing_sends_below, missing_sends}
use Rattle.exercise_conflict.specs.Wider.{AddsTo, sends_no_able, HasFurtherSends}
use Rattle.exercise_conflict.specs.Repair.{Every, Places, slots_after, bytes_of, entry_or_send, no_entry, slot_entry, kept, made, is_first, is_after, slots_below, repaired, IsSlot, AreSlots, is_able, is_able_at, is_able_missing}
use Rattle.exercise_conflict.proofs.Every.{every-append, every-filter}
use Rattle.exercise_conflict.proofs.Lacking.{IsLacking, lacking}

-- ---- what the logs lack

-- a send that a log lacks: its entry receives the datagram, and its station is there
pub record IsLackOf (r : PlainRecording) (lack : MissingSend) : Type 0 where
  pub is : missing_at r lack.entry ≡ Some lack.missing
  pub lacking : IsLacking r lack.entry lack.missing

lack_here : (r : PlainRecording) (n : ℕ) → Every (IsLackOf r) (option_to_list (missing_send_at r n))
lack_here r n =
    elim (missing_at r n) as (λ o. missing_at r n ≡ o → Every (IsLackOf r) (option_to_list (option_map (missing_send_by n) o))) [
      | None ↦ λ _. tt
      | Some m ↦ λ is. (record { is = is; lacking = lacking r n m is }, tt)
    ] refl

pub all_lacks : (r : PlainRecording) (n : ℕ) → Every (IsLackOf r) (missing_sends_below r n)
unfolding missing_sends_below
all_lacks r zero = tt
all_lacks r (suc n) = every-append (IsLackOf r) (missing_sends_below r n) (option_to_list (missing_send_at r n)) (all_lacks r n) (lack_here r n)

pub sender_there : (r : PlainRecording) (lack : MissingSend) → IsLackOf r lack → lack.missing.sender < length r.setting.stations
unfolding sender_of
sender_there r lack of =
    (first_found (λ t. is_from (station_at r t).address of.lacking.pdu) (length r.setting.stations) lack.missing.sender of.lacking.sender).below

-- ---- what slots show

pub made_slot : (r : PlainRecording) (lack : MissingSend) → IsLackOf r lack → IsSlot r (made lack)
made_slot r lack of =
    record { entry = slice_get_within r.entries lack.entry _ of.lacking.got; sender = sender_there r lack of }

all_made : (r : PlainRecording) (t : MissingSend → Bool) (xs : List MissingSend) → Every (IsLackOf r) xs → Every (IsSlot r) (map made (filter t xs))
all_made r t xs all = each (filter t xs) (every-filter t (IsLackOf r) xs all)
  where
    each : (xs : List MissingSend) → Every (IsLackOf r) xs → Every (IsSlot r) (map made xs)
    each [] all = tt
    each (x ∷ xs) all = (made_slot r x all.0, each xs all.1)

-- each slot shows an entry that is there, as that of a station that is there
pub all_slots : (r : PlainRecording) (xs : List MissingSend) (n : ℕ) → n ≤ length r.entries → Every (IsLackOf r) xs → Every (IsSlot r) (slots_below xs n)
unfolding slots_below
all_slots r xs zero le all = all_made r is_first xs all
all_slots r xs (suc n) le all =
    every-append (IsSlot r) (slots_below xs n) (kept n ∷ map made (filter (is_after n) xs)) (all_slots r xs n (omega (arith, le)) all)
    (record { entry = omega (arith, le); sender = tt }, all_made r (is_after n) xs all)

both : (a b : Bool) → (a && b) ≡ true → (a ≡ true) × (b ≡ true)
both true b e = (refl, e)
both false b e = absurd (cc)

short_bytes : (stations : ℕ) (e : Entry) → is_entry stations e ≡ true → nat_le (length (bytes_of e)) LARGEST_DATAGRAM ≡ true
short_bytes stations (Sent s stamp b) is = (both _ _ is).1
short_bytes stations (Received s stamp b) is = (both _ _ is).1
short_bytes stations (Told s e y) is = refl

slot_is_entry : (stations : ℕ) (e : Entry) (sender : Option ℕ) → IfSome sender (λ t. t < stations) → is_entry stations e ≡ true
    → is_entry stations (entry_or_send e sender) ≡ true
slot_is_entry stations e None there is = is
slot_is_entry stations e (Some t) there is =
    ap (λ b. b && nat_le (length (bytes_of e)) LARGEST_DATAGRAM) (lt-ltb t stations there) ∙ short_bytes stations e is

slot_is_stamped : (e : Entry) (sender : Option ℕ) → is_stamped e ≡ true → is_stamped (entry_or_send e sender) ≡ true
slot_is_stamped e None is = is
slot_is_stamped e (Some t) is = refl

all_shown : (r : PlainRecording) (test : Entry → Bool) → ((slot : RepairedEntry) → IsSlot r slot → test (slot_entry r slot) ≡ true)
    → (slots : List RepairedEntry) → Every (IsSlot r) slots → list_all test (map (slot_entry r) slots) ≡ true
all_shown r test each [] all = refl
all_shown r test each (x ∷ slots) all = ap (λ b. b && list_all test (map (slot_entry r) slots)) (each x all.0) ∙ all_shown r test each slots all.1

-- what slots show keeps the limits
pub are_slots : (r : PlainRecording) (slots : List RepairedEntry) → IsRecording r → Every (IsSlot r) slots → length (map (slot_entry r) slots) ≤ MOST_ENTRIES → AreSlots r slots
are_slots r slots limits all few =
    record {
      each = all;
      limits = record {
        setting = limits.setting;
        count = few;
        each_entry = all_shown r (is_entry (length r.setting.stations))
            (λ slot is. slot_is_entry (length r.setting.stations) (slice_index_or r.entries slot.entry no_entry) slot.sender is.sender
            (all_at (is_entry (length r.setting.stations)) r.entries slot.entry no_entry (slice_index_or r.entries slot.entry no_entry) limits.each_entry is.entry refl)) slots all;
        each_stamp = all_shown r is_stamped
            (λ slot is. slot_is_stamped (slice_index_or r.entries slot.entry no_entry) slot.sender
            (all_at is_stamped r.entries slot.entry no_entry (slice_index_or r.entries slot.entry no_entry) limits.each_stamp is.entry refl)) slots all;
      };
    }

-- ---- the log of a station

-- the events of a station among those that slots show
abbrev pub shown_log : PlainRecording → ℕ → List RepairedEntry → History
shown_log r s slots = log_at s (past (map (slot_entry r) slots))

pub shown_log-append : (r : PlainRecording) (s : ℕ) (xs ys : List RepairedEntry) → shown_log r s (xs ++ ys) ≡ shown_log r s ys ++ shown_log r s xs
shown_log-append r s xs ys =
    ap (λ es. log_at s (past es)) (map-append (slot_entry r) xs ys)
    ∙ ap (log_at s) (past-append (map (slot_entry r) xs) (map (slot_entry r) ys))
    ∙ log_at-append s (past (map (slot_entry r) ys)) (past (map (slot_entry r) xs))

pub shown_log-none : (r : PlainRecording) (s : ℕ) → shown_log r s [] ≡ []
unfolding past log_at
shown_log-none r s = refl

pub shown_log-one : (r : PlainRecording) (s : ℕ) (slot : RepairedEntry)
    → shown_log r s (slot ∷ []) ≡ cond (nat_eq (station_of (event_of (slot_entry r slot))) s) (event_of (slot_entry r slot) ∷ []) []
unfolding past log_at
shown_log-one r s slot = refl

pub shown_log-cons : (r : PlainRecording) (s : ℕ) (x : RepairedEntry) (xs : List RepairedEntry) → shown_log r s (x ∷ xs) ≡ shown_log r s xs ++ shown_log r s (x ∷ [])
shown_log-cons r s x xs = shown_log-append r s (x ∷ []) xs

-- ---- further sends alone

-- each event of a history passes
abbrev pub Passes : (Event → Bool) → History → Type 0
Passes may [] = Unit {0}
Passes may (v ∷ h) = (may v ≡ true) × Passes may h

pub passes-append : (may : Event → Bool) (h k : History) → Passes may h → Passes may k → Passes may (h ++ k)
passes-append may [] k one other = other
passes-append may (v ∷ h) k one other = (one.0, passes-append may h k one.1 other)

pub adds_front : (may : Event → Bool) (h g k : History) → Passes may k → AddsTo may h g → AddsTo may h (k ++ g)
adds_front may h g [] passes adds = adds
adds_front may h g (v ∷ k) passes adds = inl (passes.0, adds_front may h g k passes.1 adds)

-- what is made of a lack passes a test of events
abbrev pub MadePasses : PlainRecording → (Event → Bool) → MissingSend → Type 0
MadePasses r may lack = may (event_of (slot_entry r (made lack))) ≡ true

pub one_passes : (r : PlainRecording) (s : ℕ) (may : Event → Bool) (lack : MissingSend) → MadePasses r may lack → Passes may (shown_log r s (made lack ∷ []))
one_passes r s may lack passes =
    subst (Passes may) (sym (shown_log-one r s (made lack)))
    (elim (nat_eq (station_of (event_of (slot_entry r (made lack)))) s) as (λ b. Passes may (cond b (event_of (slot_entry r (made lack)) ∷ []) [])) [
      | true ↦ (passes, tt)
      | false ↦ tt
    ])

pub sends_pass : (r : PlainRecording) (s : ℕ) (may : Event → Bool) (xs : List MissingSend) → Every (MadePasses r may) xs → Passes may (shown_log r s (map made xs))
sends_pass r s may [] all = subst (Passes may) (sym (shown_log-none r s)) tt
sends_pass r s may (x ∷ xs) all =
    subst (Passes may) (sym (shown_log-cons r s (made x) (map made xs)))
    (passes-append may (shown_log r s (map made xs)) (shown_log r s (made x ∷ [])) (sends_pass r s may xs all.1) (one_passes r s may x all.0))

-- the log of a station goes on by an entry as it is
pub kept_shown : (r : PlainRecording) (s n : ℕ) → n < length r.entries → shown_log r s (kept n ∷ []) ≡ option_map_or (λ v. v ∷ []) (own_event r s n) []
unfolding own_event
kept_shown r s n within =
    let found = entry_within r.entries n within in
    let e : Entry = found.0 in
    let same : slice_index_or r.entries n no_entry ≡ e = get_or_from_slice_get r.entries n e no_entry found.1 in
    shown_log-one r s (kept n)
    ∙ ap (λ x. cond (nat_eq (station_of (event_of x)) s) (event_of x ∷ []) []) same
    ∙ elim (nat_eq (station_of (event_of e)) s) as
    (λ b. cond b (event_of e ∷ []) [] ≡ option_map_or (λ v. v ∷ []) (cond b (Some (event_of e)) None) []) [ true ↦ refl | false ↦ refl ]
    ∙ ap (λ o. option_map_or (λ v. v ∷ []) (option_and_then (λ x. event_at s (event_of x)) o) []) (sym found.1)

kept_adds : (r : PlainRecording) (s n : ℕ) (may : Event → Bool) (g : History) → n < length r.entries → AddsTo may (log_before r s n) g
    → AddsTo may (log_before r s (suc n)) (shown_log r s (kept n ∷ []) ++ g)
kept_adds r s n may g within adds =
    subst (λ l. AddsTo may l (shown_log r s (kept n ∷ []) ++ g)) (sym (log_before-more r s n))
    (subst (λ k. AddsTo may (option_map_or (λ v. v ∷ log_before r s n) (own_event r s n) (log_before r s n)) (k ++ g)) (sym (kept_shown r s n within))
    (elim (own_event r s n) as (λ o. AddsTo may (option_map_or (λ v. v ∷ log_before r s n) o (log_before r s n)) (option_map_or (λ v. v ∷ []) o [] ++ g)) [
      | Some v ↦ inr (log_before r s n, refl, adds)
      | None ↦ adds
    ]))

slots_add : (r : PlainRecording) (s : ℕ) (may : Event → Bool) (xs : List MissingSend) (n : ℕ) → n ≤ length r.entries → Every (MadePasses r may) xs
    → AddsTo may (log_before r s n) (shown_log r s (slots_below xs n))
unfolding slots_below
slots_add r s may xs zero le all =
    subst (λ l. AddsTo may l (shown_log r s (map made (filter is_first xs)))) (sym (log_before-none r s))
    (subst (AddsTo may []) (append-nil (shown_log r s (map made (filter is_first xs))))
    (adds_front may [] [] (shown_log r s (map made (filter is_first xs)))
    (sends_pass r s may (filter is_first xs) (every-filter is_first (MadePasses r may) xs all)) refl))
slots_add r s may xs (suc n) le all =
    let after : List RepairedEntry = map made (filter (is_after n) xs) in
    let before = slots_add r s may xs n (omega (arith, le)) all in
    subst (AddsTo may (log_before r s (suc n)))
    (sym (shown_log-append r s (slots_below xs n) (kept n ∷ after)
    ∙ ap (λ k. k ++ shown_log r s (slots_below xs n)) (shown_log-cons r s (kept n) after)
    ∙ append_assoc (shown_log r s after) (shown_log r s (kept n ∷ [])) (shown_log r s (slots_below xs n))))
    (adds_front may (log_before r s (suc n)) (shown_log r s (kept n ∷ []) ++ shown_log r s (slots_below xs n)) (shown_log r s after)
    (sends_pass r s may (filter (is_after n) xs) (every-filter (is_after n) (MadePasses r may) xs all))
    (kept_adds r s n may (shown_log r s (slots_below xs n)) (omega (arith, le)) before))

pub repaired_log : (r : PlainRecording) (s : ℕ) → log_of (repaired r) s ≡ shown_log r s (slots_below (missing_sends r) (length r.entries))
unfolding repaired log_of
repaired_log r s = refl

pub repaired_setting : (r : PlainRecording) → (repaired r).setting ≡ r.setting
unfolding repaired
repaired_setting r = refl

-- a repaired recording adds what was made to each log
pub repaired_adds : (r : PlainRecording) (may : Event → Bool) → Every (MadePasses r may) (missing_sends r) → (s : ℕ) → AddsTo may (log_of r s) (log_of (repaired r) s)
repaired_adds r may all s =
    subst (AddsTo may (log_of r s)) (sym (repaired_log r s))
    (subst (λ l. AddsTo may l (shown_log r s (slots_below (missing_sends r) (length r.entries)))) (log_before-all r s)
    (slots_add r s may (missing_sends r) (length r.entries) (omega arith) all))

-- ---- where none is an Able

or_off : (a b : Bool) → (a || b) ≡ false → (a ≡ false) × (b ≡ false)
or_off true b e = absurd (cc)
or_off false b e = (refl, e)

no_able_passes : (r : PlainRecording) (lack : MissingSend) → IsLackOf r lack → is_able_at r lack.entry ≡ false → MadePasses r (sends_no_able r.setting.exercise) lack
no_able_passes r lack of off =
    let e : Entry = Received of.lacking.station of.lacking.stamp of.lacking.bytes in
    let same : slice_index_or r.entries lack.entry no_entry ≡ e = get_or_from_slice_get r.entries lack.entry e no_entry of.lacking.got in
    ap (λ x. not (option_map_or (responds able) (meaning r.setting.exercise (bytes_of x)) false)) same
    ∙ ap not (sym (ap (λ o. option_map_or (is_able r.setting.exercise) o false) of.lacking.got) ∙ off)

pub none_able : (r : PlainRecording) (xs : List MissingSend) → Every (IsLackOf r) xs → list_any (λ (lack : MissingSend). is_able_at r lack.entry) xs ≡ false
    → Every (MadePasses r (sends_no_able r.setting.exercise)) xs
none_able r [] all off = tt
none_able r (x ∷ xs) all off =
    let parts = or_off (is_able_at r x.entry) (list_any (λ (lack : MissingSend). is_able_at r lack.entry) xs) off in
    (no_able_passes r x all.0 parts.0, none_able r xs all.1 parts.1)

-- A REPAIRED RECORDING HAS FURTHER SENDS ALONE, where none of them is an Able
pub repaired_further : (r : PlainRecording) → is_able_missing r ≡ false → HasFurtherSends r (repaired r)
unfolding is_able_missing
repaired_further r off =
    record {
      setting = repaired_setting r;
      logs = repaired_adds r (sends_no_able r.setting.exercise) (none_able r (missing_sends r) (all_lacks r (length r.entries)) off);
    }

-- ---- how the places are kept

abbrev listed : Option (Vec RepairedEntry) → List RepairedEntry
listed o = option_map_or (λ (slots : Vec RepairedEntry). slots.items) o []

listed_or : (o : Option (Vec RepairedEntry)) (none : Vec RepairedEntry) → none.items ≡ [] → (unwrap_or o none).items ≡ listed o
listed_or None none e = e
listed_or (Some w) none e = refl

-- where a send is put behind those that belong after an entry
pub put_behind : (old new : Places) (entry : ℕ) (o : Option (Vec RepairedEntry)) (none was : Vec RepairedEntry) (more : Vec RepairedEntry) (slot : RepairedEntry) → Updates nat_eq old new entry (Some more)
    → none.items ≡ [] → o ≡ get nat_eq old entry → was ≡ unwrap_or o none → more.items ≡ was.items ++ slot ∷ [] → (p : ℕ)
    → slots_after new p ≡ slots_after old p ++ (if nat_eq entry p then slot ∷ [] else [])
unfolding slots_after
put_behind old new entry o none was more slot updates empty found value items p =
    let before : was.items ≡ listed (get nat_eq old entry) =
    ap (λ (v : Vec RepairedEntry). v.items) value ∙ ap (λ (q : Option (Vec RepairedEntry)). (unwrap_or q none).items) found ∙ listed_or (get nat_eq old entry) none empty in
    ap listed (updates.0 p)
    ∙ elim (nat_eq entry p) as (λ t. nat_eq entry p ≡ t → listed (cond t (Some more) (get nat_eq old p)) ≡ listed (get nat_eq old p) ++ cond t (slot ∷ []) []) [
      | true ↦ λ same. items ∙ ap (λ ys. ys ++ slot ∷ []) before ∙ ap (λ k. listed (get nat_eq old k) ++ slot ∷ []) (eqb-true entry p same)
      | false ↦ λ _. sym (append-nil (listed (get nat_eq old p)))
    ] refl

-- the slots of a whole recording keep the limits, where they are few enough
pub whole_slots : (r : PlainRecording) → IsRecording r → (xs : List MissingSend) (n : ℕ) (slots : List RepairedEntry) → xs ≡ missing_sends r → n ≡ length r.entries
    → slots ≡ slots_below xs n → length slots ≤ MOST_ENTRIES → AreSlots r slots
whole_slots r limits xs n slots all whole is few =
    let same : slots ≡ slots_below (missing_sends r) (length r.entries) = is ∙ ap (λ ys. slots_below ys n) all ∙ ap (slots_below (missing_sends r)) whole in
    are_slots r slots limits
    (subst (Every (IsSlot r)) (sym same) (all_slots r (missing_sends r) (length r.entries) (omega arith) (all_lacks r (length r.entries))))
    (omega (arith, few, length-map slots (slot_entry r)))
