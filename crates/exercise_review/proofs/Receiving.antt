-- Where each datagram was received, one entry more at a time.
use Rattle.std.proofs.Common.{◌≡◌, ℕ, ◌+◌, List, Bool, true, false, Option, Some, None, refl, sym, ap, ◌∙◌}
use Rattle.std.specs.Prelude.{◌&&◌, ◌==◌, bytes_eq, slice_get, is_some, option_map, option_and_then, if◌then◌else◌}
use Rattle.std.specs.Option.{option_map_or, option_or}
use Rattle.std.specs.Cmp.Lexicographic.{bytes_decides}
use Rattle.std.proofs.Math.Numerals.{add-one}
use Rattle.std.proofs.lemmas.Bool.{and_parts, eqb-true}
use Rattle.std.proofs.lemmas.Bool.Decides.{Decides-like, same_from_decides}
use Rattle.indexmap.specs.IndexMap.{get}
use Rattle.dis_records.specs.declared.entity_state.EntityState.{EntityState}
use Rattle.siman_pdus.specs.declared.pdu.Pdu.{Pdu}
use Rattle.siman_pdus.specs.Role.{is_request_body}
use Rattle.exercise_model.specs.Entry.{Entry, Sent, Received, Told}
use Rattle.exercise_model.specs.Meaning.{meaning}
use Rattle.exercise_model.specs.Setting.{is_open}
use Rattle.exercise_model.specs.Recording.{PlainRecording}
use Rattle.exercise_model.specs.Place.{first_below}
use Rattle.exercise_review.specs.declared.receipt.Receipt.{Receipt}
use Rattle.exercise_review.specs.declared.receipt.Receipts.{Receipts}
use Rattle.exercise_review.specs.Counted.{last_below}
use Rattle.exercise_review.specs.Entries.{bytes_received_by, bytes_received}
use Rattle.exercise_review.specs.Heard.{gets_in, same_receipt, first_kept, asks_in, Heard, IsReceiptIndex}
use Rattle.exercise_review.specs.Register.{order_key, id_key, receipt_key, entry_key, key_at}

bytes_sym : (a b : List ℕ) → bytes_eq a b ≡ bytes_eq b a
bytes_sym a b = same_from_decides (bytes_eq a b) (bytes_eq b a) (bytes_decides a b) (Decides-like (bytes_eq b a) (λ e. sym e) (λ e. sym e) (bytes_decides b a))

pub heard_none : (r : PlainRecording) (heard : Heard) → ((k : Receipt) → get same_receipt heard k ≡ None) → IsReceiptIndex r 0 heard
unfolding first_below last_below
heard_none r heard none = record {
  first = λ k _. ap (option_map (λ (x : Receipts). x.first)) (none k);
  last = λ k _. ap (option_map (λ (x : Receipts). x.last)) (none k);
}

-- one entry more, which passes or does not
pub first_more : (f : ℕ → Bool) (n : ℕ) (b : Bool) → f n ≡ b → first_below f (n + 1) ≡ option_or (first_below f n) (if b then Some n else None)
unfolding first_below
first_more f n b e = ap (first_below f) (add-one n) ∙ ap (λ c. option_or (first_below f n) (if c then Some n else None)) e

pub last_more : (f : ℕ → Bool) (n : ℕ) (b : Bool) → f n ≡ b → last_below f (n + 1) ≡ (if b then Some n else last_below f n)
unfolding last_below
last_more f n b e = ap (last_below f) (add-one n) ∙ ap (λ c. if c then Some n else last_below f n) e

nothing : (o : Option ℕ) → o ≡ option_or o None
nothing None = refl
nothing (Some x) = refl

pub still_first : (f : ℕ → Bool) (n : ℕ) (o : Option ℕ) → f n ≡ false → o ≡ first_below f n → o ≡ first_below f (n + 1)
still_first f n o fails is = is ∙ nothing (first_below f n) ∙ sym (first_more f n false fails)

pub still_last : (f : ℕ → Bool) (n : ℕ) (o : Option ℕ) → f n ≡ false → o ≡ last_below f n → o ≡ last_below f (n + 1)
still_last f n o fails is = is ∙ sym (last_more f n false fails)

-- an entry that receives nothing
pub heard_still : (r : PlainRecording) (n : ℕ) (heard : Heard) → ((s : ℕ) → bytes_received r s n ≡ None) → IsReceiptIndex r n heard → IsReceiptIndex r (n + 1) heard
unfolding gets_in
heard_still r n heard none so_far = record {
  first = λ k other. still_first (gets_in r k.station k.bytes.now) n (option_map (λ (x : Receipts). x.first) (get same_receipt heard k))
      (ap (λ o. option_map_or (bytes_eq k.bytes.now) o false) (none k.station)) (so_far.first k other);
  last = λ k other. still_last (gets_in r k.station k.bytes.now) n (option_map (λ (x : Receipts). x.last) (get same_receipt heard k))
      (ap (λ o. option_map_or (bytes_eq k.bytes.now) o false) (none k.station)) (so_far.last k other);
}

pub sent_no_bytes : (r : PlainRecording) (n t stamp : ℕ) (b : List ℕ) → slice_get r.entries n ≡ Some (Sent t stamp b) → (s : ℕ) → bytes_received r s n ≡ None
unfolding bytes_received
sent_no_bytes r n t stamp b at s = ap (option_and_then (bytes_received_by s)) at

pub told_no_bytes : (r : PlainRecording) (n t e : ℕ) (y : EntityState) → slice_get r.entries n ≡ Some (Told t e y) → (s : ℕ) → bytes_received r s n ≡ None
unfolding bytes_received
told_no_bytes r n t e y at s = ap (option_and_then (bytes_received_by s)) at

-- an entry that receives something
here : (r : PlainRecording) (n stamp : ℕ) (x k : Receipt) → slice_get r.entries n ≡ Some (Received x.station stamp x.bytes.now)
    → gets_in r k.station k.bytes.now n ≡ same_receipt x k
unfolding gets_in bytes_received
here r n stamp x k at =
    ap (λ o. option_map_or (bytes_eq k.bytes.now) (option_and_then (bytes_received_by k.station) o) false) at
    ∙ elim (x.station == k.station) as (λ c. option_map_or (bytes_eq k.bytes.now) (if c then Some x.bytes.now else None) false ≡ (c && bytes_eq x.bytes.now k.bytes.now)) [
      | true ↦ bytes_sym k.bytes.now x.bytes.now
      | false ↦ refl
    ]

kept_first : (n : ℕ) (o : Option Receipts) → Some (first_kept n o) ≡ option_or (option_map (λ (x : Receipts). x.first) o) (Some n)
kept_first n None = refl
kept_first n (Some x) = refl

pub heard_more : (r : PlainRecording) (n stamp : ℕ) (x : Receipt) (old new : Heard) → slice_get r.entries n ≡ Some (Received x.station stamp x.bytes.now)
    → ((k : Receipt) → get same_receipt new k ≡ (if same_receipt x k then Some (record { first = first_kept n (get same_receipt old x); last = n }) else get same_receipt old k))
    → IsReceiptIndex r n old → IsReceiptIndex r (n + 1) new
heard_more r n stamp x old new at written so_far = record {
  first = λ k asks. elim (same_receipt x k) as (λ b. same_receipt x k ≡ b → option_map (λ (y : Receipts). y.first) (get same_receipt new k) ≡ first_below (gets_in r k.station k.bytes.now) (n + 1)) [
    | true ↦ λ same.
        let parts = and_parts (x.station == k.station) _ same in
        let station : x.station ≡ k.station = eqb-true x.station k.station parts.0 in
        let bytes : x.bytes.now ≡ k.bytes.now = (bytes_decides x.bytes.now k.bytes.now).0 parts.1 in
        ap (option_map (λ (y : Receipts). y.first)) (written k ∙ ap (λ (b : Bool). if b then Some (now_kept) else get same_receipt old k) same)
        ∙ kept_first n (get same_receipt old x)
        ∙ ap (λ o. option_or o (Some n)) (so_far.first x (ap (asks_in r) bytes ∙ asks)
        ∙ ap (λ s. first_below (gets_in r s x.bytes.now) n) station ∙ ap (λ (b : List ℕ). first_below (gets_in r k.station b) n) bytes)
        ∙ sym (first_more (gets_in r k.station k.bytes.now) n true (here r n stamp x k at ∙ same))
    | false ↦ λ other.
        still_first (gets_in r k.station k.bytes.now) n (option_map (λ (y : Receipts). y.first) (get same_receipt new k)) (here r n stamp x k at ∙ other)
        (ap (option_map (λ (y : Receipts). y.first)) (written k ∙ ap (λ (b : Bool). if b then Some (now_kept) else get same_receipt old k) other) ∙ so_far.first k asks)
  ] refl;
  last = λ k asks. elim (same_receipt x k) as (λ b. same_receipt x k ≡ b → option_map (λ (y : Receipts). y.last) (get same_receipt new k) ≡ last_below (gets_in r k.station k.bytes.now) (n + 1)) [
    | true ↦ λ same.
        ap (option_map (λ (y : Receipts). y.last)) (written k ∙ ap (λ (b : Bool). if b then Some (now_kept) else get same_receipt old k) same)
        ∙ sym (last_more (gets_in r k.station k.bytes.now) n true (here r n stamp x k at ∙ same))
    | false ↦ λ other.
        still_last (gets_in r k.station k.bytes.now) n (option_map (λ (y : Receipts). y.last) (get same_receipt new k)) (here r n stamp x k at ∙ other)
        (ap (option_map (λ (y : Receipts). y.last)) (written k ∙ ap (λ (b : Bool). if b then Some (now_kept) else get same_receipt old k) other) ∙ so_far.last k asks)
  ] refl;
}
  where
    now_kept : Receipts
    now_kept = record { first = first_kept n (get same_receipt old x); last = n }

-- what has a key and is received in a recording that is not open is a request
keyed_asks : (r : PlainRecording) (n t stamp : ℕ) (b : List ℕ) → slice_get r.entries n ≡ Some (Received t stamp b) → is_open r.setting.form ≡ false
    → is_some (key_at r n) ≡ true → asks_in r b ≡ true
unfolding key_at receipt_key
keyed_asks r n t stamp b at closed keyed =
    elim (meaning r.setting.exercise b) as
    (λ m. is_some (option_and_then (receipt_key r.setting.form t) m) ≡ true → option_map_or (λ (p : Pdu). is_request_body p.body) m false ≡ true) [
      | None ↦ λ h. absurd (let no : false ≡ true = h in cc)
      | Some p ↦ λ h. of_pdu p h
    ] (ap (λ o. is_some (option_and_then (entry_key r n) o)) (sym at) ∙ keyed)
  where
    of_pdu : (p : Pdu) → is_some (receipt_key r.setting.form t p) ≡ true → is_request_body p.body ≡ true
    of_pdu p h = elim (is_request_body p.body) as
        (λ c. is_some (if c then order_key t p else (if is_open r.setting.form then id_key t p else None)) ≡ true → c ≡ true) [
          | true ↦ λ _. refl
          | false ↦ λ has. absurd (let no : false ≡ true = sym (ap (λ c. is_some (if c then id_key t p else None)) closed) ∙ has in cc)
        ] h

-- such an entry need not be kept
heard_asked : (r : PlainRecording) (n t stamp : ℕ) (b : List ℕ) (heard : Heard) → slice_get r.entries n ≡ Some (Received t stamp b) → is_open r.setting.form ≡ false
    → is_some (key_at r n) ≡ true → IsReceiptIndex r n heard → IsReceiptIndex r (n + 1) heard
unfolding gets_in bytes_received
heard_asked r n t stamp b heard at closed keyed so_far = record {
  first = λ k other. still_first (gets_in r k.station k.bytes.now) n (option_map (λ (x : Receipts). x.first) (get same_receipt heard k))
      (fails k.station k.bytes.now other) (so_far.first k other);
  last = λ k other. still_last (gets_in r k.station k.bytes.now) n (option_map (λ (x : Receipts). x.last) (get same_receipt heard k))
      (fails k.station k.bytes.now other) (so_far.last k other);
}
  where
    differs : (c : List ℕ) → asks_in r c ≡ false → bytes_eq c b ≡ false
    differs c other = elim (bytes_eq c b) as (λ e. bytes_eq c b ≡ e → e ≡ false) [
      | true ↦ λ same. absurd (let no : false ≡ true = sym other ∙ ap (asks_in r) ((bytes_decides c b).0 same) ∙ keyed_asks r n t stamp b at closed keyed in cc)
      | false ↦ λ _. refl
    ] refl

    fails : (s : ℕ) (c : List ℕ) → asks_in r c ≡ false → gets_in r s c n ≡ false
    fails s c other =
        ap (λ o. option_map_or (bytes_eq c) (option_and_then (bytes_received_by s) o) false) at
        ∙ elim (t == s) as (λ e. option_map_or (bytes_eq c) (if e then Some b else None) false ≡ false) [ true ↦ differs c other | false ↦ refl ]

-- an entry of any kind that has a key, in a recording that is not open, need not be kept
pub heard_keyed : (r : PlainRecording) (n : ℕ) (heard : Heard) → is_open r.setting.form ≡ false → is_some (key_at r n) ≡ true → IsReceiptIndex r n heard
    → IsReceiptIndex r (n + 1) heard
unfolding bytes_received
heard_keyed r n heard closed keyed so_far = of_entry (slice_get r.entries n) refl
  where
    of_entry : (e : Option Entry) → slice_get r.entries n ≡ e → IsReceiptIndex r (n + 1) heard
    of_entry None at = heard_still r n heard (λ s. ap (option_and_then (bytes_received_by s)) at) so_far
    of_entry (Some (Sent t stamp b)) at = heard_still r n heard (sent_no_bytes r n t stamp b at) so_far
    of_entry (Some (Received t stamp b)) at = heard_asked r n t stamp b heard at closed keyed so_far
    of_entry (Some (Told t e y)) at = heard_still r n heard (told_no_bytes r n t e y at) so_far
