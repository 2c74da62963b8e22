-- What a station that receives an Able knows of its sender.
use Rattle.std.proofs.Common.{◌≡◌, ⊎_elim, inl, inr, ℕ, ◌<◌, ◌≤◌, List, [], ◌∷◌, ◌++◌, cond, Option, Some, None, true, false, refl, sym, ap, ◌∙◌, subst, arith}
use Rattle.std.specs.Prelude.{◌⊎◌, slice_get, option_and_then, ◌&&◌, ◌==◌, not}
use Rattle.std.specs.Option.{option_map_or}
use Rattle.std.specs.List.{list_any}
use Rattle.std.proofs.lemmas.List.Folds.{list_any-append}
use Rattle.std.proofs.lemmas.Bool.{and_parts, eqb-true, eq-eqb, cases_lt, or_left, or_right}
use Rattle.std.proofs.lemmas.Option.{same_Some}
use Rattle.siman_pdus.specs.declared.pdu.Pdu.{Pdu}
use Rattle.exercise_model.specs.declared.acknowledge.AcknowledgeKey.{AcknowledgeKey}
use Rattle.exercise_model.specs.Entry.{Entry, Sent, Received, Told}
use Rattle.exercise_model.specs.Recording.{PlainRecording, IsRecording}
use Rattle.exercise_model.specs.Setting.{is_recorded}
use Rattle.exercise_model.specs.History.{Event, Send, Get, History, event_of, station_of, log_at}
use Rattle.exercise_model.specs.Meaning.{meaning}
use Rattle.exercise_model.specs.Change.{able, responds, key_of, same_key, responds_under, sends_under, was_acknowledged, is_change}
use Rattle.exercise_model.specs.Place.{event_at, own_event, log_before}
use Rattle.exercise_model.specs.Run.{Explains, IsBeginning, Represents, Contains}
use Rattle.exercise_model.specs.Account.{change_under, change_behind_pdu, change_behind}
use Rattle.exercise_model.specs.Pairing.{IsChangeBehind, ReceivesAble}
use Rattle.exercise_model.specs.Headline.{HadRequest}
use Rattle.exercise_model.specs.Knowledge.{SendsChange, MakesChange, IsKnown, IsKnownAt, Knows}
use Rattle.exercise_model.proofs.Beginnings.{log_before-next}
use Rattle.exercise_model.proofs.Independence.{same_logs}
use Rattle.exercise_model.proofs.Sentences.{allowed_at, was_sent_before, had_request}
use Rattle.exercise_model.proofs.Places.{head_same, tail_same, own_within, own_entry, stands_in, bytes_in, change_at, change_in_run}
use Rattle.exercise_model.proofs.Wholes.{able_changed, able_sent, change_of_able, contains_on, key_itself, sender_found, sender_recorded}
use Rattle.exercise_model.proofs.FirstAnswers.{change_is}
use Rattle.exercise_model.proofs.Carrying.{not_true, able_is_answer, carried_out_where_allowed}

-- of two events of one history one is before the other, or they are one
two_places : (a b c d : History) (v w : Event) → a ++ v ∷ c ≡ b ++ w ∷ d → Contains d c v ⊎ (((c ≡ d) × (v ≡ w)) ⊎ Contains c d w)
two_places [] [] c d v w e = inr (inl (tail_same v w c d e, head_same v w c d e))
two_places [] (y ∷ b) c d v w e = inr (inr (b, sym (tail_same v y c (b ++ w ∷ d) e)))
two_places (x ∷ a) [] c d v w e = inl (a, tail_same x w (a ++ v ∷ c) d e)
two_places (x ∷ a) (y ∷ b) c d v w e = two_places a b c d v w (tail_same x y (a ++ v ∷ c) (b ++ w ∷ d) e)

pub in_order : (h c d : History) (v w : Event) → Contains h c v → Contains h d w → Contains d c v ⊎ (((c ≡ d) × (v ≡ w)) ⊎ Contains c d w)
in_order h c d v w one other = two_places one.0 other.0 c d v w (one.1 ∙ sym other.1)

-- keys with the same five numbers are one
key_from : ℕ → ℕ → ℕ → ℕ → ℕ → AcknowledgeKey
key_from f n s a e = record { flag = f; request = n; site = s; application = a; entity = e }

keys_same : (k l : AcknowledgeKey) → same_key k l ≡ true → k ≡ l
unfolding key_from
keys_same k l e =
    let of_flag = and_parts (k.flag == l.flag)
    ((k.request == l.request) && ((k.site == l.site) && ((k.application == l.application) && (k.entity == l.entity)))) e in
    let of_request = and_parts (k.request == l.request) ((k.site == l.site) && ((k.application == l.application) && (k.entity == l.entity))) of_flag.1 in
    let of_site = and_parts (k.site == l.site) ((k.application == l.application) && (k.entity == l.entity)) of_request.1 in
    let of_rest = and_parts (k.application == l.application) (k.entity == l.entity) of_site.1 in
    ap (λ n. key_from n k.request k.site k.application k.entity) (eqb-true _ _ of_flag.0)
    ∙ ap (λ n. key_from l.flag n k.site k.application k.entity) (eqb-true _ _ of_request.0)
    ∙ ap (λ n. key_from l.flag l.request n k.application k.entity) (eqb-true _ _ of_site.0)
    ∙ ap (λ n. key_from l.flag l.request l.site n k.entity) (eqb-true _ _ of_rest.0)
    ∙ ap (λ n. key_from l.flag l.request l.site l.application n) (eqb-true _ _ of_rest.1)

-- what is sent where an Able is sent under a key
able_meant : (x : ℕ) (k : AcknowledgeKey) (t : ℕ) (b : List ℕ) → sends_under x able k (Send t b) ≡ true
    → (a : Pdu) × (meaning x b ≡ Some a) × (responds able a ≡ true) × (key_of a ≡ Some k)
able_meant x k t b e = of_meaning (meaning x b) refl e where
  of_key : (o : Option AcknowledgeKey) → option_map_or (same_key k) o false ≡ true → o ≡ Some k
  of_key None e = absurd (cc)
  of_key (Some l) e = ap Some (sym (keys_same k l e))

  of_meaning : (o : Option Pdu) → meaning x b ≡ o → option_map_or (responds_under able k) o false ≡ true
      → (a : Pdu) × (meaning x b ≡ Some a) × (responds able a ≡ true) × (key_of a ≡ Some k)
  of_meaning None meant e = absurd (cc)
  of_meaning (Some a) meant e =
      let parts = and_parts (responds able a) (option_map_or (same_key k) (key_of a) false) e in
      (a, meant, parts.0, of_key (key_of a) parts.1)

able_under : (x : ℕ) (k : AcknowledgeKey) (t : ℕ) (b : List ℕ) (a : Pdu) → meaning x b ≡ Some a → responds able a ≡ true → key_of a ≡ Some k
    → sends_under x able k (Send t b) ≡ true
able_under x k t b a meant is_able under =
    ap (λ o. option_map_or (responds_under able k) o false) meant
    ∙ ap (λ c. c && option_map_or (same_key k) (key_of a) false) is_able
    ∙ ap (λ o. option_map_or (same_key k) o false) under
    ∙ key_itself k

-- a Change is Able, and its key is fresh
change_parts : (x : ℕ) (a : Pdu) (log : History) (k : AcknowledgeKey) → is_change x a log ≡ true → key_of a ≡ Some k
    → (responds able a ≡ true) × (was_acknowledged x able k log ≡ false)
unfolding is_change
change_parts x a log k change under =
    let parts = and_parts (responds able a) (option_map_or (λ k. not (was_acknowledged x able k log)) (key_of a) false) change in
    (parts.0, not_true _ (sym (ap (λ o. option_map_or (λ k. not (was_acknowledged x able k log)) o false) under) ∙ parts.1))

-- a log that has an Able under a key was acknowledged under it
acknowledged_on : (x : ℕ) (k : AcknowledgeKey) (v : Event) (log whole : History) → IsBeginning (v ∷ log) whole → sends_under x able k v ≡ true
    → was_acknowledged x able k whole ≡ true
unfolding was_acknowledged
acknowledged_on x k v log whole beginning sends =
    subst (λ h. list_any (sends_under x able k) h ≡ true) beginning.1
    (list_any-append (sends_under x able k) beginning.0 (v ∷ log) ∙ or_right _ _ (or_left _ _ sends))

-- the entry of an event of a station
pub own_sent : (r : PlainRecording) (t n stamp : ℕ) (b : List ℕ) → slice_get r.entries n ≡ Some (Sent t stamp b) → own_event r t n ≡ Some (Send t b)
unfolding own_event
own_sent r t n stamp b at =
    ap (option_and_then (λ e. event_at t (event_of e))) at ∙ ap (λ c. cond c (Some (Send t b)) None) (eq-eqb t t refl)

own_received : (r : PlainRecording) (t n stamp : ℕ) (b : List ℕ) → slice_get r.entries n ≡ Some (Received t stamp b)
    → own_event r t n ≡ Some (Get t b)
unfolding own_event
own_received r t n stamp b at =
    ap (option_and_then (λ e. event_at t (event_of e))) at ∙ ap (λ c. cond c (Some (Get t b)) None) (eq-eqb t t refl)

sent_entry : (r : PlainRecording) (t j : ℕ) (b : List ℕ) → own_event r t j ≡ Some (Send t b)
    → (stamp : ℕ) × (slice_get r.entries j ≡ Some (Sent t stamp b))
unfolding bytes_in
sent_entry r t j b own = let at = own_entry r t j (Send t b) own in of_entry at.0 at.1 at.2 where
  of_entry : (e : Entry) → slice_get r.entries j ≡ Some e → event_of e ≡ Send t b → (stamp : ℕ) × (slice_get r.entries j ≡ Some (Sent t stamp b))
  of_entry (Received s stamp c) at same = absurd (cc)
  of_entry (Told s n y) at same = absurd (cc)
  of_entry (Sent s stamp c) at same =
      (stamp, at ∙ ap (λ n. Some (Sent n stamp c)) (ap station_of same) ∙ ap (λ d. Some (Sent t stamp d)) (ap bytes_in same))

-- no Change under a key comes after another of its station
none_after : (r : PlainRecording) (t : ℕ) (k : AcknowledgeKey) (m n : ℕ) → SendsChange r t k m → SendsChange r t k n → m < n → ⊥
none_after r t k m n one other below =
    let x = r.setting.exercise in
    let is_able = (change_parts x one.pdu (log_before r t m) k one.change one.under).0 in
    let fresh = (change_parts x other.pdu (log_before r t n) k other.change other.under).1 in
    let sends = able_under x k t one.bytes one.pdu one.meant is_able one.under in
    let sent = acknowledged_on x k (Send t one.bytes) (log_before r t m) (log_before r t n)
    (own_within r t m n (Send t one.bytes) (own_sent r t m one.stamp one.bytes one.at) below) sends in
    absurd (cc (fresh, sent))

one_entry : (r : PlainRecording) (t : ℕ) (k : AcknowledgeKey) (m n : ℕ) → SendsChange r t k m → SendsChange r t k n → m ≡ n
one_entry r t k m n one other =
    ⊎_elim
    (λ (less : m < n). absurd (none_after r t k m n one other less))
    (λ (at : n ≤ m).
    ⊎_elim
    (λ (more : n < m). absurd (none_after r t k n m other one more))
    (λ (here : m ≤ n). let same : m ≡ n = omega (arith, at, here) in same)
    (cases_lt n m))
    (cases_lt m n)

-- nor does one in a run
none_later : (r : PlainRecording) (h k : History) (t : ℕ) (key : AcknowledgeKey) (earlier place : History) (b c : List ℕ) (a d : Pdu)
    → MakesChange r h t key earlier b a → MakesChange r k t key place c d → Contains place earlier (Send t b) → ⊥
none_later r h k t key earlier place b c a d one other within =
    let x = r.setting.exercise in
    let is_able = (change_parts x a (log_at t earlier) key one.change one.under).0 in
    let fresh = (change_parts x d (log_at t place) key other.change other.under).1 in
    let sent = able_sent x key place earlier t b within (able_under x key t b a one.meant is_able one.under) in
    absurd (cc (fresh, sent))

one_change : (r : PlainRecording) (h : History) (t : ℕ) (key : AcknowledgeKey) (earlier place : History) (b c : List ℕ) (a d : Pdu)
    → MakesChange r h t key earlier b a → MakesChange r h t key place c d → (place ≡ earlier) × (c ≡ b)
unfolding bytes_in
one_change r h t key earlier place b c a d one other =
    ⊎_elim
    (λ (before : Contains place earlier (Send t b)). absurd (none_later r h h t key earlier place b c a d one other before))
    (λ (rest : ((earlier ≡ place) × (Send t b ≡ Send t c)) ⊎ Contains earlier place (Send t c)).
    ⊎_elim
    (λ (same : (earlier ≡ place) × (Send t b ≡ Send t c)). (sym same.0, sym (ap bytes_in same.1)))
    (λ (after : Contains earlier place (Send t c)). absurd (none_later r h h t key place earlier c b d a other one after))
    rest)
    (in_order h earlier place (Send t b) (Send t c) one.sent other.sent)

-- the first Able of a station under a key, where it had sent one before an event, was sent before that event
first_before : (r : PlainRecording) (h before earlier : History) (t : ℕ) (k : AcknowledgeKey) (b c : List ℕ) (s : ℕ) (sent : History)
    → Contains h before (Get s b) → Contains before sent (Send t b) → sends_under r.setting.exercise able k (Send t b) ≡ true
    → Contains h earlier (Send t c) → was_acknowledged r.setting.exercise able k (log_at t earlier) ≡ false → Contains before earlier (Send t c)
first_before r h before earlier t k b c s sent got within sends at fresh =
    ⊎_elim
    (λ (inside : Contains before earlier (Send t c)). inside)
    (λ (rest : ((earlier ≡ before) × (Send t c ≡ Get s b)) ⊎ Contains earlier before (Get s b)).
    ⊎_elim
    (λ (same : (earlier ≡ before) × (Send t c ≡ Get s b)). let other = same.1 in absurd (cc))
    (λ (after : Contains earlier before (Get s b)).
    let known = able_sent r.setting.exercise k earlier sent t b (contains_on earlier before sent (Send t b) (Get s b) after within) sends in
    absurd (cc (known, fresh)))
    rest)
    (in_order h earlier before (Send t c) (Get s b) at got)

-- what is known of a first Able that was sent before
of_first : (r : PlainRecording) (h before : History) (p : Pdu) (j : ℕ) → Explains r h → (behind : IsChangeBehind r h p j)
    → Contains before behind.first.earlier (Send behind.station behind.first.bytes)
    → IsKnown r h before p j
of_first r h before p j explains behind within =
    let x = r.setting.exercise in
    let t = behind.station in
    let k : AcknowledgeKey = behind.key in
    let first = behind.first in
    let log : History = log_at t first.earlier in
    let sent = able_meant x k t first.bytes first.sends in
    let a : Pdu = sent.0 in
    let meant : meaning x first.bytes ≡ Some a = sent.1 in
    let is_able : responds able a ≡ true = sent.2 in
    let under : key_of a ≡ Some k = sent.3 in
    let fresh : (l : AcknowledgeKey) → key_of a ≡ Some l → was_acknowledged x able l log ≡ false =
    λ l e. subst (λ l. was_acknowledged x able l log ≡ false) (same_Some k l (sym under ∙ e)) first.first in
    let change : is_change x a log ≡ true = change_is x log a is_able fresh in
    let had : HadRequest r first.earlier t a = had_request r h first.earlier t first.bytes a explains first.sent meant
    (able_is_answer x first.bytes a meant is_able) in
    let allowed = (allowed_at r.setting h first.earlier (Send t first.bytes) explains.run first.sent).1 in
    let in_run : MakesChange r h t k first.earlier first.bytes a = record { sent = first.sent; meant = meant; under = under; change = change } in
    let at = sent_entry r t j first.bytes first.stands.event in
    let entry : SendsChange r t k j = record {
      stamp = at.0;
      bytes = first.bytes;
      pdu = a;
      at = at.1;
      meant = meant;
      under = under;
      change = ap (is_change x a) (sym (same_logs r h first.earlier (Send t first.bytes) j explains first.sent first.stands)) ∙ change;
    } in
    record {
      station = t;
      sender = behind.sender;
      key = k;
      under = behind.under;
      earlier = first.earlier;
      bytes = first.bytes;
      acknowledge = a;
      made = record { sent = within; meant = meant; under = under; change = change };
      stands = first.stands;
      had = had;
      carried_out = carried_out_where_allowed r first.earlier t first.bytes a allowed meant is_able change had
          (record { answer = meant; is_able = is_able; taken = had.first; answers = had.answers; fresh = fresh });
      alone = λ place b d other. one_change r h t k first.earlier place first.bytes b a d in_run other;
      entry = entry;
      only = λ n other. one_entry r t k n j other entry;
    }

-- WHAT IS KNOWN OF THE CHANGE BEHIND AN ABLE
pub change_known : (r : PlainRecording) (h before : History) (s : ℕ) (b : List ℕ) (p : Pdu) (i j : ℕ) → IsRecording r → Explains r h
    → Contains h before (Get s b) → Represents r i before (Get s b) → meaning r.setting.exercise b ≡ Some p → change_behind r i ≡ Some j
    → IsKnown r h before p j
change_known r h before s b p i j limits explains got stands meant change =
    let x = r.setting.exercise in
    let behind = change_in_run r h before s b p i j explains got stands meant change in
    let is_able = able_behind r p j (sym (change_at r s i b p stands.event meant) ∙ change) in
    let sent = was_sent_before r h before s b p limits explains got meant (sender_recorded r p behind.station behind.sender) in
    let same : sent.station ≡ behind.station = same_Some sent.station behind.station
    (sym (sender_found r limits p sent.station sent.recorded sent.own) ∙ behind.sender) in
    let within : Contains before sent.earlier (Send behind.station b) = subst (λ t. Contains before sent.earlier (Send t b)) same sent.sent in
    of_first r h before p j explains behind
    (first_before r h before behind.first.earlier behind.station behind.key b behind.first.bytes s sent.earlier got within
    (able_under x behind.key behind.station b p meant is_able behind.under) behind.first.sent behind.first.first)
  where
    able_behind : (r : PlainRecording) (p : Pdu) (j : ℕ) → change_behind_pdu r p ≡ Some j → responds able p ≡ true
    able_behind r p j e =
        elim (responds able p) as (λ t. cond t (option_and_then (change_under r p) (key_of p)) None ≡ Some j → t ≡ true) [
          | true ↦ λ _. refl
          | false ↦ λ e. absurd (cc)
        ] e

-- EACH ABLE RECEIVED FROM A RECORDED STATION HAS ONE THAT IS KNOWN
pub able_known : (r : PlainRecording) (h before : History) (s : ℕ) (b : List ℕ) (p : Pdu) (i : ℕ) → IsRecording r → Explains r h
    → Contains h before (Get s b) → Represents r i before (Get s b) → meaning r.setting.exercise b ≡ Some p
    → responds able p ≡ true → is_recorded r.setting p ≡ true → (j : ℕ) × (change_behind r i ≡ Some j) × IsKnown r h before p j
able_known r h before s b p i limits explains got stands meant is_able recorded =
    let found = able_changed r h before s b p i limits explains got stands meant is_able recorded in
    (found.0, found.1, change_known r h before s b p i found.0 limits explains got stands meant found.1)

-- where an entry receives one
entry_known : (r : PlainRecording) (h : History) (i : ℕ) → IsRecording r → Explains r h → ReceivesAble r i
    → (j : ℕ) × (change_behind r i ≡ Some j) × IsKnownAt r h i j
entry_known r h i limits explains received =
    let s = received.station in
    let v : Event = Get s received.bytes in
    let own = own_received r s i received.stamp received.bytes received.at in
    let at = stands_in r h s i v own (subst (IsBeginning (v ∷ log_before r s i)) (sym (explains.logs s)) (log_before-next r s i v own)) in
    let found = able_known r h at.earlier s received.bytes received.pdu i limits explains at.within at.stands received.meant received.is_able
    received.recorded in
    (found.0, found.1, record { able = received; before = at.earlier; received = at.within; stands = at.stands; known = found.2 })

-- and no other entry has one
behind_known : (r : PlainRecording) (h : History) (i j : ℕ) → IsRecording r → Explains r h → change_behind r i ≡ Some j → IsKnownAt r h i j
behind_known r h i j limits explains change =
    let found = entry_known r h i limits explains (change_of_able r i j change) in
    subst (IsKnownAt r h i) (same_Some found.0 j (sym found.1 ∙ change)) found.2

-- THE SAME OF THE ENTRIES
pub entries_known : (r : PlainRecording) (h : History) → IsRecording r → Explains r h → Knows r h
entries_known r h limits explains = record {
  each = λ i received. entry_known r h i limits explains received;
  no_others = λ i j change. behind_known r h i j limits explains change;
}
