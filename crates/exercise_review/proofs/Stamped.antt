-- A datagram that is sent again means the same PDU, with another timestamp.
use Rattle.std.proofs.Common.{◌≡◌, ℕ, ◌+◌, ◌-◌, ◌*◌, zero, suc, List, [], ◌∷◌, length, ◌<◌, ◌≤◌, take, drop, true, false, Option, Some, None, refl, sym, ap, ◌∙◌, arith}
use Rattle.std.specs.Prelude.{slice_index_or, ◌&&◌, ◌==◌, not, option_map, option_and_then, if◌then◌else◌}
use Rattle.std.specs.Option.{option_map_or}
use Rattle.std.specs.Int.{Width, w8, w16, w32, byte_len, from_be_bytes}
use Rattle.std.specs.Str.{bytes_eq}
use Rattle.std.proofs.lemmas.List.{drop-drop, drop-take, take_rest, take_more}
use Rattle.std.proofs.lemmas.Slice.Eq.{bytes_eq-Decides}
use Rattle.dis_records.specs.declared.kind.Kind.{Kind}
use Rattle.dis_records.specs.declared.kind.Kind.TheVariants as kinds
use Rattle.dis_records.specs.Datum.{padded}
use Rattle.dis_records.specs.Kind.{kind_from}
use Rattle.dis_records.specs.Layout.{spelled_number}
use Rattle.dis_records.specs.Header.{header_at}
use Rattle.dis_records.specs.Records.{fixed_at, ids_at, variable_at, variable_sizes}
use Rattle.dis_records.specs.Views.{variable_start, ids_start, shown_datums, shown_ids}
use Rattle.siman_pdus.specs.declared.fault.PduFault.{PduFault}
use Rattle.siman_pdus.specs.declared.pdu.Pdu.{Pdu}
use Rattle.siman_pdus.specs.Reading.{shown_body, refusal_of, unless_refused, pdu_from, reading}
use Rattle.siman_pdus.specs.Answers.{same_id}
use Rattle.siman_pdus.specs.Role.{role_of, is_request_body}
use Rattle.siman_pdus.specs.Same.{is_same_order}
use Rattle.siman_pdus.specs.Shape.{datum_sizes, id_sizes, record_sizes}
use Rattle.exercise_model.specs.declared.form.Form.{Form}
use Rattle.exercise_model.specs.Account.{pair_of}
use Rattle.exercise_model.specs.Place.{first_below}
use Rattle.exercise_model.specs.Recording.{PlainRecording}
use Rattle.exercise_model.proofs.Offered.{first_found}
use Rattle.exercise_model.specs.Meaning.{is_outside, meant, meaning}
use Rattle.exercise_review.specs.Digest.{digest, digest_of}
use Rattle.exercise_review.specs.Entries.{bytes_sent, bytes_received, pdu_sent}
use Rattle.exercise_review.specs.Order.{OrderData, sends_order, sent_head, order_at}
use Rattle.exercise_review.specs.Register.{order_key, receipt_key, key_at}
use Rattle.exercise_review.specs.Stamped.{IsResent, stamped, says}
use Rattle.exercise_review.proofs.FirstOnes.{passes_before}
use Rattle.exercise_review.proofs.Moved.{key_got, key_of_sent}
use Rattle.exercise_review.proofs.OneOrder.{same_itself, order_made}
use Rattle.exercise_review.proofs.Paired.{alone_kept}

-- ---- bytes that are the same from an offset on

-- they are the same further on
on : (n at : ℕ) (a b : List ℕ) → drop at a ≡ drop at b → drop (at + n) a ≡ drop (at + n) b
on n at a b same = sym (drop-drop n at a) ∙ ap (drop n) same ∙ drop-drop n at b

number_on : (w : Width) (at : ℕ) (a b : List ℕ) → drop at a ≡ drop at b → spelled_number w at a ≡ spelled_number w at b
unfolding spelled_number
number_on w at a b same = ap (λ l. from_be_bytes w (take (byte_len w) l)) same

fixed_on : (n at : ℕ) (a b : List ℕ) → drop at a ≡ drop at b → fixed_at n at a ≡ fixed_at n at b
unfolding fixed_at
fixed_on zero at a b same = refl
fixed_on (suc n) at a b same =
    rw (number_on w32 at a b same, number_on w32 (at + 4) a b (on 4 at a b same), fixed_on n (at + 8) a b (on 8 at a b same)) refl

ids_on : (n at : ℕ) (a b : List ℕ) → drop at a ≡ drop at b → ids_at n at a ≡ ids_at n at b
unfolding ids_at
ids_on zero at a b same = refl
ids_on (suc n) at a b same = rw (number_on w32 at a b same, ids_on n (at + 4) a b (on 4 at a b same)) refl

sizes_on : (n at : ℕ) (a b : List ℕ) → drop at a ≡ drop at b → variable_sizes n at a ≡ variable_sizes n at b
unfolding variable_sizes
sizes_on zero at a b same = refl
sizes_on (suc n) at a b same =
    let size = padded (spelled_number w32 (at + 4) b) in
    rw (number_on w32 (at + 4) a b (on 4 at a b same), sizes_on n (at + size) a b (on size at a b same)) refl

variable_on : (n at : ℕ) (a b : List ℕ) → drop at a ≡ drop at b → variable_at n at a ≡ variable_at n at b
unfolding variable_at
variable_on zero at a b same = refl
variable_on (suc n) at a b same =
    let size = padded (spelled_number w32 (at + 4) b) in
    rw (number_on w32 at a b same, number_on w32 (at + 4) a b (on 4 at a b same), on 8 at a b same, variable_on n (at + size) a b (on size at a b same)) refl

-- ---- the datums and the identifiers whose counts stand there

datums_on : (at : ℕ) (a b : List ℕ) → drop at a ≡ drop at b → shown_datums at a ≡ shown_datums at b
unfolding shown_datums
datums_on at a b same =
    let fixed = spelled_number w32 at b in
    let behind = on 8 at a b same in
    rw (
      number_on w32 at a b same,
      number_on w32 (at + 4) a b (on 4 at a b same),
      fixed_on fixed (at + 8) a b behind,
      variable_on (spelled_number w32 (at + 4) b) (variable_start at b) a b (on (8 * fixed) (at + 8) a b behind),
    ) refl

id_lists_on : (at : ℕ) (a b : List ℕ) → drop at a ≡ drop at b → shown_ids at a ≡ shown_ids at b
unfolding shown_ids
id_lists_on at a b same =
    let fixed = spelled_number w32 at b in
    let behind = on 8 at a b same in
    rw (
      number_on w32 at a b same,
      number_on w32 (at + 4) a b (on 4 at a b same),
      ids_on fixed (at + 8) a b behind,
      ids_on (spelled_number w32 (at + 4) b) (ids_start at b) a b (on (4 * fixed) (at + 8) a b behind),
    ) refl

datum_sizes_on : (at : ℕ) (a b : List ℕ) → drop at a ≡ drop at b → datum_sizes at a ≡ datum_sizes at b
datum_sizes_on at a b same =
    let fixed = spelled_number w32 at b in
    rw (
      number_on w32 at a b same,
      number_on w32 (at + 4) a b (on 4 at a b same),
      sizes_on (spelled_number w32 (at + 4) b) (variable_start at b) a b (on (8 * fixed) (at + 8) a b (on 8 at a b same)),
    ) refl

id_sizes_on : (at : ℕ) (a b : List ℕ) → drop at a ≡ drop at b → id_sizes at a ≡ id_sizes at b
id_sizes_on at a b same = rw (number_on w32 at a b same, number_on w32 (at + 4) a b (on 4 at a b same)) refl

-- ---- bodies

body_on : (kind : Kind) (a b : List ℕ) → drop 24 a ≡ drop 24 b → shown_body kind a ≡ shown_body kind b
unfolding shown_body
body_on kinds.CreateEntity a b same = rw (number_on w32 24 a b same) refl
body_on kinds.RemoveEntity a b same = rw (number_on w32 24 a b same) refl
body_on kinds.StartResume a b same =
    rw (
      number_on w32 24 a b same,
      number_on w32 28 a b (on 4 24 a b same),
      number_on w32 32 a b (on 8 24 a b same),
      number_on w32 36 a b (on 12 24 a b same),
      number_on w32 40 a b (on 16 24 a b same),
    ) refl
body_on kinds.StopFreeze a b same =
    rw (
      number_on w32 24 a b same,
      number_on w32 28 a b (on 4 24 a b same),
      number_on w8 32 a b (on 8 24 a b same),
      number_on w8 33 a b (on 9 24 a b same),
      number_on w32 36 a b (on 12 24 a b same),
    ) refl
body_on kinds.Acknowledge a b same =
    rw (number_on w16 24 a b same, number_on w16 26 a b (on 2 24 a b same), number_on w32 28 a b (on 4 24 a b same)) refl
body_on kinds.ActionRequest a b same =
    rw (number_on w32 24 a b same, number_on w32 28 a b (on 4 24 a b same), datums_on 32 a b (on 8 24 a b same)) refl
body_on kinds.ActionResponse a b same =
    rw (number_on w32 24 a b same, number_on w32 28 a b (on 4 24 a b same), datums_on 32 a b (on 8 24 a b same)) refl
body_on kinds.DataQuery a b same =
    rw (number_on w32 24 a b same, number_on w32 28 a b (on 4 24 a b same), id_lists_on 32 a b (on 8 24 a b same)) refl
body_on kinds.SetData a b same = rw (number_on w32 24 a b same, datums_on 32 a b (on 8 24 a b same)) refl
body_on kinds.DataPdu a b same = rw (number_on w32 24 a b same, datums_on 32 a b (on 8 24 a b same)) refl
body_on kinds.EventReport a b same = rw (number_on w32 24 a b same, datums_on 32 a b (on 8 24 a b same)) refl
body_on kinds.Comment a b same = rw (datums_on 24 a b same) refl

records_on : (kind : Kind) (a b : List ℕ) → drop 24 a ≡ drop 24 b → record_sizes kind a ≡ record_sizes kind b
records_on kinds.CreateEntity a b same = refl
records_on kinds.RemoveEntity a b same = refl
records_on kinds.StartResume a b same = refl
records_on kinds.StopFreeze a b same = refl
records_on kinds.Acknowledge a b same = refl
records_on kinds.ActionRequest a b same = datum_sizes_on 32 a b (on 8 24 a b same)
records_on kinds.ActionResponse a b same = datum_sizes_on 32 a b (on 8 24 a b same)
records_on kinds.DataQuery a b same = id_sizes_on 32 a b (on 8 24 a b same)
records_on kinds.SetData a b same = datum_sizes_on 32 a b (on 8 24 a b same)
records_on kinds.DataPdu a b same = datum_sizes_on 32 a b (on 8 24 a b same)
records_on kinds.EventReport a b same = datum_sizes_on 32 a b (on 8 24 a b same)
records_on kinds.Comment a b same = datum_sizes_on 24 a b same

-- ---- the header

front_number : (at : ℕ) (a b : List ℕ) → take (at + 1) a ≡ take (at + 1) b → spelled_number w8 at a ≡ spelled_number w8 at b
unfolding spelled_number
front_number at a b same = ap (from_be_bytes w8) (sym (drop-take at 1 a) ∙ ap (drop at) same ∙ drop-take at 1 b)

-- fewer bytes at the front are the same too
one_less : (l : List ℕ) → take 1 (take 4 l) ≡ take 1 l
one_less [] = refl
one_less (u ∷ l) = refl

two_less : (l : List ℕ) → take 2 (take 4 l) ≡ take 2 l
two_less [] = refl
two_less (u ∷ []) = refl
two_less (u ∷ v ∷ l) = refl

three_less : (l : List ℕ) → take 3 (take 4 l) ≡ take 3 l
three_less [] = refl
three_less (u ∷ []) = refl
three_less (u ∷ v ∷ []) = refl
three_less (u ∷ v ∷ w ∷ l) = refl

-- the parts of a header but for its timestamp
record HeaderSame (a b : List ℕ) : Type 0 where
  size : length a ≡ length b
  version : spelled_number w8 0 a ≡ spelled_number w8 0 b
  exercise : spelled_number w8 1 a ≡ spelled_number w8 1 b
  kind : spelled_number w8 2 a ≡ spelled_number w8 2 b
  family : spelled_number w8 3 a ≡ spelled_number w8 3 b
  length_field : spelled_number w16 8 a ≡ spelled_number w16 8 b
  status : spelled_number w8 10 a ≡ spelled_number w8 10 b

header_same : (a b : List ℕ) → IsResent a b → HeaderSame a b
header_same a b is = record {
  size = is.size;
  version = front_number 0 a b (sym (one_less a) ∙ ap (take 1) is.front ∙ one_less b);
  exercise = front_number 1 a b (sym (two_less a) ∙ ap (take 2) is.front ∙ two_less b);
  kind = front_number 2 a b (sym (three_less a) ∙ ap (take 3) is.front ∙ three_less b);
  family = front_number 3 a b is.front;
  length_field = number_on w16 8 a b is.rest;
  status = number_on w8 10 a b (on 2 8 a b is.rest);
}

-- ---- the meaning

refused_same : (a b : List ℕ) → IsResent a b → refusal_of a ≡ refusal_of b
refused_same a b is =
    let h = header_same a b is in
    let body = on 16 8 a b is.rest in
    rw (h.size, h.version, h.kind, h.family, h.length_field, records_on (kind_from (spelled_number w8 2 b)) a b body) refl

-- what stands there is the same, but for the timestamp
stands_stamped : (a b : List ℕ) → IsResent a b → pdu_from (header_at b) b ≡ stamped (spelled_number w32 4 b) (pdu_from (header_at a) a)
stands_stamped a b is =
    let h = header_same a b is in
    rw (
      h.version,
      h.exercise,
      h.kind,
      h.status,
      number_on w16 12 a b (on 4 8 a b is.rest),
      number_on w16 14 a b (on 6 8 a b is.rest),
      number_on w16 16 a b (on 8 8 a b is.rest),
      number_on w16 18 a b (on 10 8 a b is.rest),
      number_on w16 20 a b (on 12 8 a b is.rest),
      number_on w16 22 a b (on 14 8 a b is.rest),
      body_on (kind_from (spelled_number w8 2 b)) a b (on 16 8 a b is.rest),
    ) refl

unless_stamped : (stamp : ℕ) (fault : Option PduFault) (p : Pdu) → unless_refused fault (stamped stamp p) ≡ option_map (stamped stamp) (unless_refused fault p)
unless_stamped stamp None p = refl
unless_stamped stamp (Some fault) p = refl

reading_stamped : (a b : List ℕ) → IsResent a b → reading b ≡ option_map (stamped (spelled_number w32 4 b)) (reading a)
reading_stamped a b is =
    ap (λ fault. unless_refused fault (pdu_from (header_at b) b)) (sym (refused_same a b is))
    ∙ ap (unless_refused (refusal_of a)) (stands_stamped a b is)
    ∙ unless_stamped (spelled_number w32 4 b) (refusal_of a) (pdu_from (header_at a) a)

meant_stamped : (x stamp : ℕ) (o : Option Pdu) → option_and_then (meant x) (option_map (stamped stamp) o) ≡ option_map (stamped stamp) (option_and_then (meant x) o)
meant_stamped x stamp None = refl
meant_stamped x stamp (Some p) =
    elim ((p.exercise == x) && not (is_outside (role_of p.body))) as (λ k. (if k then Some (stamped stamp p) else None) ≡ option_map (stamped stamp) (if k then Some p else None)) [
      | true ↦ refl
      | false ↦ refl
    ]

-- WHAT IS SENT AGAIN means the same, but for the timestamp
pub means_again : (a b : List ℕ) → IsResent a b → (x : ℕ) → meaning x b ≡ option_map (stamped (spelled_number w32 4 b)) (meaning x a)
unfolding meaning
means_again a b is x = ap (option_and_then (meant x)) (reading_stamped a b is) ∙ meant_stamped x (spelled_number w32 4 b) (reading a)

-- it is the same order as another where that was
pub asks_again : (a b : List ℕ) → IsResent a b → (x : ℕ) (p : Pdu) → option_map_or (is_same_order p) (meaning x b) false ≡ option_map_or (is_same_order p) (meaning x a) false
asks_again a b is x p = ap (λ o. option_map_or (is_same_order p) o false) (means_again a b is x) ∙ unstamped (meaning x a)
  where
    unstamped : (o : Option Pdu) → option_map_or (is_same_order p) (option_map (stamped (spelled_number w32 4 b)) o) false ≡ option_map_or (is_same_order p) o false
    unstamped None = refl
    unstamped (Some q) = refl

-- it has the same key at a station
key_again : (a b : List ℕ) → IsResent a b → (x s : ℕ) → option_and_then (order_key s) (meaning x b) ≡ option_and_then (order_key s) (meaning x a)
unfolding order_key digest_of digest
key_again a b is x s = ap (option_and_then (order_key s)) (means_again a b is x) ∙ unstamped (meaning x a)
  where
    unstamped : (o : Option Pdu) → option_and_then (order_key s) (option_map (stamped (spelled_number w32 4 b)) o) ≡ option_and_then (order_key s) o
    unstamped None = refl
    unstamped (Some q) = refl

got_key_again : (a b : List ℕ) → IsResent a b → (x s : ℕ) (f : Form) → option_and_then (receipt_key f s) (meaning x b) ≡ option_and_then (receipt_key f s) (meaning x a)
unfolding receipt_key order_key digest_of digest
got_key_again a b is x s f = ap (option_and_then (receipt_key f s)) (means_again a b is x) ∙ unstamped (meaning x a)
  where
    unstamped : (o : Option Pdu) → option_and_then (receipt_key f s) (option_map (stamped (spelled_number w32 4 b)) o) ≡ option_and_then (receipt_key f s) o
    unstamped None = refl
    unstamped (Some q) = refl

-- WHAT A STATION SENDS AGAIN has the key that it had, where neither takes up a request
pub sent_again : (r : PlainRecording) (s j i : ℕ) (a b : List ℕ) → bytes_sent r s j ≡ Some a → bytes_sent r s i ≡ Some b → pair_of r j ≡ None → pair_of r i ≡ None
    → IsResent a b → key_at r j ≡ key_at r i
sent_again r s j i a b earlier here none alone is =
    let x = r.setting.exercise in
    key_of_sent r s j a earlier ∙ alone_kept r s j (meaning x a) none ∙ sym (key_again a b is x s)
    ∙ sym (alone_kept r s i (meaning x b) alone) ∙ sym (key_of_sent r s i b here)

-- and so has what it receives again
pub got_again : (r : PlainRecording) (s j i : ℕ) (a b : List ℕ) → bytes_received r s j ≡ Some a → bytes_received r s i ≡ Some b → IsResent a b → key_at r j ≡ key_at r i
got_again r s j i a b earlier here is =
    key_got r s j a earlier ∙ sym (got_key_again a b is r.setting.exercise s r.setting.form) ∙ sym (key_got r s i b here)

-- WHAT WAS SENT BEFORE is no head
pub sent_before : (r : PlainRecording) (s j i : ℕ) (a b : List ℕ) → bytes_sent r s j ≡ Some a → IsResent a b → j < i
    → same_id (option_and_then (sent_head r s) (meaning r.setting.exercise b)) (Some i) ≡ false
unfolding sends_order pdu_sent
sent_before r s j i a b earlier is before = of_meaning (meaning r.setting.exercise b) refl
  where
    sends : (p : Pdu) → meaning r.setting.exercise b ≡ Some p → sends_order r s p j ≡ true
    sends p means =
        ap (λ o. option_map_or (is_same_order p) (option_and_then (meaning r.setting.exercise) o) false) earlier
        ∙ sym (asks_again a b is r.setting.exercise p)
        ∙ ap (λ o. option_map_or (is_same_order p) o false) means
        ∙ same_itself p

    of_meaning : (o : Option Pdu) → meaning r.setting.exercise b ≡ o → same_id (option_and_then (sent_head r s) o) (Some i) ≡ false
    of_meaning None means = refl
    of_meaning (Some p) means =
        elim (is_request_body p.body) as (λ k. same_id (if k then first_below (sends_order r s p) (length r.entries) else None) (Some i) ≡ false) [
          | true ↦ sym (passes_before (sends_order r s p) (length r.entries) i j before (sends p means))
          | false ↦ refl
        ]

-- the bytes by which an order was made say it
pub head_says : (r : PlainRecording) (o : OrderData) (s : ℕ) (b : List ℕ) → o.maker ≡ Some s → order_at r o.head ≡ Some o → bytes_sent r s o.head ≡ Some b
    → says r o.request b ≡ true
unfolding sends_order pdu_sent
head_says r o s b maker at sent =
    let made = order_made r o.head s o at maker in
    let passes = (first_found (sends_order r s o.request) (length r.entries) o.head made.first).passes in
    sym (ap (λ l. option_map_or (is_same_order o.request) (option_and_then (meaning r.setting.exercise) l) false) sent) ∙ passes

-- ---- how it is found

one_more : (i : ℕ) (a b : List ℕ) → i < length a → i < length b → take i a ≡ take i b → slice_index_or a i 0 ≡ slice_index_or b i 0
    → take (i + 1) a ≡ take (i + 1) b
one_more i a b within there same next =
    take_more a i 0 within ∙ rw (same, next) refl ∙ sym (take_more b i 0 there)

-- four bytes are compared one by one, all others in one go
pub resent : (a b : List ℕ) → length a ≡ length b → 8 ≤ length b → bytes_eq (take (length b - 8) (drop 8 b)) (take (length a - 8) (drop 8 a)) ≡ true
    → slice_index_or a 0 0 ≡ slice_index_or b 0 0 → slice_index_or a 1 0 ≡ slice_index_or b 1 0 → slice_index_or a 2 0 ≡ slice_index_or b 2 0
    → slice_index_or a 3 0 ≡ slice_index_or b 3 0 → IsResent a b
resent a b size room rest first second third fourth = record {
  size = size;
  front = one_more 3 a b (omega (arith, size, room)) (omega (arith, room))
      (one_more 2 a b (omega (arith, size, room)) (omega (arith, room))
      (one_more 1 a b (omega (arith, size, room)) (omega (arith, room))
      (one_more 0 a b (omega (arith, size, room)) (omega (arith, room)) refl first) second) third) fourth;
  rest = sym (sym (take_rest b 8) ∙ (bytes_eq-Decides (take (length b - 8) (drop 8 b)) (take (length a - 8) (drop 8 a))).0 rest ∙ take_rest a 8);
}
