-- Tables that keep the first entry under each key, one entry more at a time.
use Rattle.std.proofs.Common.{◌≡◌, ℕ, ◌+◌, List, [], ◌++◌, length, cond, Bool, true, false, Option, Some, None, refl, sym, ap, ◌∙◌, arith}
use Rattle.std.specs.Prelude.{slice_get, nat_eq, is_none, is_some, ◌&&◌, bytes_eq, unwrap_or, option_map, option_and_then, if◌then◌else◌}
use Rattle.std.specs.Option.{option_map_or, option_or, option_to_list}
use Rattle.std.specs.Cmp.Lexicographic.{bytes_decides}
use Rattle.std.proofs.Math.Numerals.{add-one}
use Rattle.std.proofs.lemmas.Bool.{eq-eqb, ne_eqb, eqb-true}
use Rattle.std.proofs.lemmas.Bool.Decides.{nat_tests, Decides-like, same_from_decides}
use Rattle.indexmap.specs.IndexMap.{get}
use Rattle.dis_records.specs.declared.address.SiteApplication.{SiteApplication}
use Rattle.dis_records.specs.Entity.{is_addressed}
use Rattle.siman_pdus.specs.declared.pdu.Pdu.{Pdu}
use Rattle.siman_pdus.specs.Role.{is_request_body, request_id_of}
use Rattle.siman_pdus.specs.Answers.{same_id, same_pair}
use Rattle.exercise_model.specs.Entry.{Entry, Sent, Received, Told}
use Rattle.exercise_model.specs.Recording.{PlainRecording}
use Rattle.exercise_model.specs.History.{Event, Send, Get, Tell, event_of, station_at}
use Rattle.exercise_model.specs.Meaning.{meaning}
use Rattle.exercise_model.specs.Exchange.{is_asked}
use Rattle.exercise_model.specs.Place.{event_at, own_event, first_below, brings_request, entry_taken_up}
use Rattle.exercise_model.proofs.Offered.{first_found}
use Rattle.exercise_findings.specs.Source.{source_of_bytes, source_of}
use Rattle.exercise_findings.proofs.Offered.{source_here, same_first, no_first}
use Rattle.exercise_findings.specs.Missing.{got_bytes, gets_bytes, missing_entry, missing_at}
use Rattle.exercise_conflict.specs.declared.asks.ReceivedKey.{ReceivedKey}
use Rattle.exercise_conflict.specs.declared.receipts.Datagram.{Datagram}
use Rattle.exercise_conflict.specs.Clash.{meant_by_get, got_pdu}
use Rattle.exercise_conflict.specs.Lacks.{same_datagram, Receipts, IsUnsent, AreReceipts, same_request_key, request_key_under, request_key_of, request_key_by, request_key_at, has_request_key, Asks, AreRequestKeys, asked_under, missing_send_at, missing_sends_below}
use Rattle.exercise_conflict.proofs.Asking.{brings_is}

-- ---- the first entry that passes

or_none : (o : Option ℕ) → o ≡ option_or o None
or_none None = refl
or_none (Some x) = refl

or_some : (o : Option ℕ) (n : ℕ) → Some (unwrap_or o n) ≡ option_or o (Some n)
or_some None n = refl
or_some (Some m) n = refl

first_on : (f : ℕ → Bool) (n : ℕ) → first_below f (n + 1) ≡ option_or (first_below f n) (if f n then Some n else None)
unfolding first_below
first_on f n = ap (first_below f) (add-one n)

pub kept_still : (f : ℕ → Bool) (n : ℕ) (o : Option ℕ) → f n ≡ false → o ≡ first_below f n → o ≡ first_below f (n + 1)
kept_still f n o off is =
    is ∙ or_none (first_below f n) ∙ ap (λ (b : Bool). option_or (first_below f n) (if b then Some n else None)) (sym off) ∙ sym (first_on f n)

pub kept_here : (f : ℕ → Bool) (n : ℕ) (o : Option ℕ) → f n ≡ true → o ≡ first_below f n → Some (unwrap_or o n) ≡ first_below f (n + 1)
kept_here f n o on is =
    ap (λ x. Some (unwrap_or x n)) is ∙ or_some (first_below f n) n
    ∙ ap (λ (b : Bool). option_or (first_below f n) (if b then Some n else None)) (sym on) ∙ sym (first_on f n)

pub none_kept : (f : ℕ → Bool) → first_below f 0 ≡ None
unfolding first_below
none_kept f = refl

-- what is kept is the entry itself exactly where none before passes
pub kept_first : (f : ℕ → Bool) (n : ℕ) → nat_eq (unwrap_or (first_below f n) n) n ≡ is_none (first_below f n)
kept_first f n =
    elim (first_below f n) as (λ o. first_below f n ≡ o → nat_eq (unwrap_or o n) n ≡ is_none o) [
      | None ↦ λ _. eq-eqb n n refl
      | Some k ↦ λ found. let below = (first_found f n k found).below in ne_eqb k n (λ same. omega (arith, below, same))
    ] refl

-- ---- receipts

pub gets_here : (r : PlainRecording) (n s stamp : ℕ) (b c : List ℕ) → slice_get r.entries n ≡ Some (Received s stamp c) → gets_bytes r b n ≡ bytes_eq b c
unfolding gets_bytes
gets_here r n s stamp b c at = ap (λ o. option_map_or (got_bytes b) o false) at

bytes_eq-comm : (xs ys : List ℕ) → bytes_eq xs ys ≡ bytes_eq ys xs
bytes_eq-comm xs ys = same_from_decides _ _ (bytes_decides xs ys) (Decides-like (bytes_eq ys xs) sym sym (bytes_decides ys xs))

pub no_receipts : (r : PlainRecording) (receipts : Receipts) → ((d : Datagram) → get same_datagram receipts d ≡ None) → AreReceipts r 0 receipts
no_receipts r receipts none d unsent = none d ∙ sym (none_kept (gets_bytes r d.bytes.now))

pub receipts_still : (r : PlainRecording) (n : ℕ) (receipts : Receipts) → ((b : List ℕ) → source_of_bytes r b ≡ None → gets_bytes r b n ≡ false)
    → AreReceipts r n receipts → AreReceipts r (n + 1) receipts
receipts_still r n receipts none tied d unsent = kept_still (gets_bytes r d.bytes.now) n _ (none d.bytes.now unsent) (tied d unsent)

pub receipts_more : (r : PlainRecording) (n s stamp kept : ℕ) (got : Datagram) (old new : Receipts) → slice_get r.entries n ≡ Some (Received s stamp got.bytes.now)
    → IsUnsent r got → kept ≡ unwrap_or (get same_datagram old got) n
    → ((d : Datagram) → get same_datagram new d ≡ (if same_datagram got d then Some kept else get same_datagram old d))
    → AreReceipts r n old → AreReceipts r (n + 1) new
receipts_more r n s stamp kept got old new at lone first is tied d unsent =
    let b : List ℕ = d.bytes.now in
    let c : List ℕ = got.bytes.now in
    is d
    ∙ elim (bytes_eq c b) as (λ q. bytes_eq c b ≡ q → cond q (Some kept) (get same_datagram old d) ≡ first_below (gets_bytes r b) (n + 1)) [
      | false ↦ λ apart. kept_still (gets_bytes r b) n _ (gets_here r n s stamp b c at ∙ bytes_eq-comm b c ∙ apart) (tied d unsent)
      | true ↦ λ same.
          let equal : c ≡ b = (bytes_decides c b).0 same in
          ap Some first
          ∙ kept_here (gets_bytes r b) n (get same_datagram old got) (gets_here r n s stamp b c at ∙ bytes_eq-comm b c ∙ same)
          (tied got lone ∙ ap (λ x. first_below (gets_bytes r x) n) equal)
    ] refl

-- an entry that has a source receives nothing that has none
pub sourced_gets : (r : PlainRecording) (n : ℕ) → is_some (source_of r n) ≡ true → (b : List ℕ) → source_of_bytes r b ≡ None → gets_bytes r b n ≡ false
unfolding gets_bytes
sourced_gets r n some b none =
    elim (slice_get r.entries n) as (λ o. slice_get r.entries n ≡ o → option_map_or (got_bytes b) o false ≡ false) [
      | None ↦ λ _. refl
      | Some e ↦ of_entry e
    ] refl
  where
    of_entry : (e : Entry) → slice_get r.entries n ≡ Some e → got_bytes b e ≡ false
    of_entry (Sent s stamp c) at = refl
    of_entry (Told s m y) at = refl
    of_entry (Received s stamp c) at =
        elim (bytes_eq b c) as (λ q. bytes_eq b c ≡ q → q ≡ false) [
          | false ↦ λ _. refl
          | true ↦ λ same.
              let equal : b ≡ c = (bytes_decides b c).0 same in
              absurd (cc (sym some ∙ ap is_some (source_here r n (Received s stamp c) at ∙ ap (source_of_bytes r) (sym equal) ∙ none)))
        ] refl

-- nor does one that receives nothing
abbrev pub is_receipt : Entry → Bool
is_receipt (Sent s stamp b) = false
is_receipt (Received s stamp b) = true
is_receipt (Told s e y) = false

pub idle_gets : (r : PlainRecording) (n : ℕ) (e : Entry) → slice_get r.entries n ≡ Some e → is_receipt e ≡ false → (b : List ℕ) → gets_bytes r b n ≡ false
unfolding gets_bytes
idle_gets r n e at idle b = ap (λ o. option_map_or (got_bytes b) o false) at ∙ of_entry e idle
  where
    of_entry : (e : Entry) → is_receipt e ≡ false → got_bytes b e ≡ false
    of_entry (Sent s stamp c) idle = refl
    of_entry (Received s stamp c) idle = absurd (cc)
    of_entry (Told s m y) idle = refl

pub idle_missing : (r : PlainRecording) (n : ℕ) (e : Entry) → slice_get r.entries n ≡ Some e → is_receipt e ≡ false → missing_at r n ≡ None
unfolding missing_at
idle_missing r n e at idle =
    ap (λ o. if is_none (source_of r n) then option_and_then (missing_entry r n) o else None) at
    ∙ elim (is_none (source_of r n)) as (λ (b : Bool). (if b then missing_entry r n e else None) ≡ None) [ true ↦ of_entry e idle | false ↦ refl ]
  where
    of_entry : (e : Entry) → is_receipt e ≡ false → missing_entry r n e ≡ None
    of_entry (Sent s stamp c) idle = refl
    of_entry (Received s stamp c) idle = absurd (cc)
    of_entry (Told s m y) idle = refl

pub none_left : (o : Option ℕ) → is_some o ≡ false → o ≡ None
none_left None e = refl
none_left (Some x) e = absurd (cc)

-- ---- requests

pub nat_eq-comm : (a b : ℕ) → nat_eq a b ≡ nat_eq b a
nat_eq-comm a b = grind (arith, nat_tests)

ask_fields : (k l : ReceivedKey) → k.station ≡ l.station → k.request ≡ l.request → k.site ≡ l.site → k.application ≡ l.application → k ≡ l
ask_fields k l a b c d = rw (a, b, c, d) refl

pub both : (a b : Bool) → (a && b) ≡ true → (a ≡ true) × (b ≡ true)
both true b e = (refl, e)
both false b e = absurd (cc)

ask_equal : (k l : ReceivedKey) → same_request_key k l ≡ true → k ≡ l
ask_equal k l e =
    let one = both _ _ e in
    let two = both _ _ one.1 in
    let three = both _ _ two.1 in
    ask_fields k l (eqb-true _ _ one.0) (eqb-true _ _ two.0) (eqb-true _ _ three.0) (eqb-true _ _ three.1)

ask-comm : (k l : ReceivedKey) → same_request_key k l ≡ same_request_key l k
ask-comm k l =
    ap (λ b. b && (nat_eq k.request l.request && (nat_eq k.site l.site && nat_eq k.application l.application))) (nat_eq-comm k.station l.station)
    ∙ ap (λ b. nat_eq l.station k.station && (b && (nat_eq k.site l.site && nat_eq k.application l.application))) (nat_eq-comm k.request l.request)
    ∙ ap (λ b. nat_eq l.station k.station && (nat_eq l.request k.request && (b && nat_eq k.application l.application))) (nat_eq-comm k.site l.site)
    ∙ ap (λ b. nat_eq l.station k.station && (nat_eq l.request k.request && (nat_eq l.site k.site && b))) (nat_eq-comm k.application l.application)

pub no_request_keys : (r : PlainRecording) (asks : Asks) → ((k : ReceivedKey) → get same_request_key asks k ≡ None) → AreRequestKeys r 0 asks
no_request_keys r asks none k = none k ∙ sym (none_kept (has_request_key r k))

pub asks_still : (r : PlainRecording) (n : ℕ) (asks : Asks) → request_key_at r n ≡ None → AreRequestKeys r n asks → AreRequestKeys r (n + 1) asks
asks_still r n asks none tied k = kept_still (has_request_key r k) n _ (ap (λ o. option_map_or (same_request_key k) o false) none) (tied k)

pub asks_more : (r : PlainRecording) (n kept : ℕ) (ask : ReceivedKey) (old new : Asks) → request_key_at r n ≡ Some ask → kept ≡ unwrap_or (get same_request_key old ask) n
    → ((k : ReceivedKey) → get same_request_key new k ≡ (if same_request_key ask k then Some kept else get same_request_key old k)) → AreRequestKeys r n old → AreRequestKeys r (n + 1) new
asks_more r n kept ask old new at first is tied k =
    let here : has_request_key r k n ≡ same_request_key ask k = ap (λ o. option_map_or (same_request_key k) o false) at ∙ ask-comm k ask in
    is k
    ∙ elim (same_request_key ask k) as (λ q. same_request_key ask k ≡ q → cond q (Some kept) (get same_request_key old k) ≡ first_below (has_request_key r k) (n + 1)) [
      | false ↦ λ apart. kept_still (has_request_key r k) n _ (here ∙ apart) (tied k)
      | true ↦ λ same.
          ap Some first
          ∙ kept_here (has_request_key r k) n (get same_request_key old ask) (here ∙ same) (tied ask ∙ ap (λ x. first_below (has_request_key r x) n) (ask_equal ask k same))
    ] refl

-- ---- a request by its key is one that the answer could take up

key_is : (s : ℕ) (a : SiteApplication) (p q : Pdu) (id : ℕ) → request_id_of p.body ≡ Some id
    → option_map_or (same_request_key (asked_under s p id)) (request_key_of s a q) false ≡ is_asked a p q
key_is s a p q id e =
    elim (is_request_body q.body) as (λ t. option_map_or (same_request_key (asked_under s p id)) (cond (t && is_addressed q.target a) (option_map (request_key_under s q) (request_id_of q.body)) None) false
    ≡ (t && (is_addressed q.target a && (same_id (Some id) (request_id_of q.body) && same_pair q.origin p.target)))) [
      | false ↦ refl
      | true ↦ elim (is_addressed q.target a) as (λ t. option_map_or (same_request_key (asked_under s p id)) (cond t (option_map (request_key_under s q) (request_id_of q.body)) None) false
          ≡ (t && (same_id (Some id) (request_id_of q.body) && same_pair q.origin p.target))) [
            | false ↦ refl
            | true ↦ elim (request_id_of q.body) as (λ o. option_map_or (same_request_key (asked_under s p id)) (option_map (request_key_under s q) o) false
                ≡ (same_id (Some id) o && same_pair q.origin p.target)) [
                  | None ↦ refl
                  | Some j ↦ ap (λ b. b && (nat_eq id j && (nat_eq p.target.site q.origin.site && nat_eq p.target.application q.origin.application))) (eq-eqb s s refl)
                      ∙ ap (λ b. nat_eq id j && (b && nat_eq p.target.application q.origin.application)) (nat_eq-comm p.target.site q.origin.site)
                      ∙ ap (λ b. nat_eq id j && (nat_eq q.origin.site p.target.site && b)) (nat_eq-comm p.target.application q.origin.application)
                ]
          ]
    ]
    ∙ ap (λ o. is_request_body q.body && (is_addressed q.target a && (same_id o (request_id_of q.body) && same_pair q.origin p.target))) (sym e)

-- at another station none is
key_apart : (s t : ℕ) (a : SiteApplication) (p q : Pdu) (id : ℕ) → nat_eq t s ≡ false → option_map_or (same_request_key (asked_under s p id)) (request_key_of t a q) false ≡ false
key_apart s t a p q id far =
    elim (is_request_body q.body && is_addressed q.target a) as (λ c. option_map_or (same_request_key (asked_under s p id)) (cond c (option_map (request_key_under t q) (request_id_of q.body)) None) false ≡ false) [
      | false ↦ refl
      | true ↦ elim (request_id_of q.body) as (λ o. option_map_or (same_request_key (asked_under s p id)) (option_map (request_key_under t q) o) false ≡ false) [
        | None ↦ refl
        | Some j ↦ ap (λ b. b && (nat_eq id j && (nat_eq p.target.site q.origin.site && nat_eq p.target.application q.origin.application))) (nat_eq-comm s t ∙ far)
      ]
    ]

brings_ask : (r : PlainRecording) (s : ℕ) (p : Pdu) (id : ℕ) → request_id_of p.body ≡ Some id → (j : ℕ) → has_request_key r (asked_under s p id) j ≡ brings_request r s p j
unfolding request_key_at got_pdu own_event
brings_ask r s p id e j =
    elim (slice_get r.entries j) as (λ o. option_map_or (same_request_key (asked_under s p id)) (option_and_then (request_key_by r) o) false
    ≡ option_map_or (is_asked (station_at r s).address p) (option_and_then (meant_by_get r.setting.exercise) (option_and_then (λ y. event_at s (event_of y)) o)) false) [
      | None ↦ refl
      | Some y ↦ of_entry y
    ]
    ∙ sym (brings_is r s p j)
  where
    idle : (c : Bool) (v : Event) → meant_by_get r.setting.exercise v ≡ None
        → false ≡ option_map_or (is_asked (station_at r s).address p) (option_and_then (meant_by_get r.setting.exercise) (cond c (Some v) None)) false
    idle true v none = sym (ap (λ o. option_map_or (is_asked (station_at r s).address p) o false) none)
    idle false v none = refl

    of_entry : (y : Entry) → option_map_or (same_request_key (asked_under s p id)) (request_key_by r y) false
        ≡ option_map_or (is_asked (station_at r s).address p) (option_and_then (meant_by_get r.setting.exercise) (event_at s (event_of y))) false
    of_entry (Sent t stamp b) = idle (nat_eq t s) (Send t b) refl
    of_entry (Told t m y) = idle (nat_eq t s) (Tell t m y) refl
    of_entry (Received t stamp b) =
        elim (nat_eq t s) as (λ c. nat_eq t s ≡ c → option_map_or (same_request_key (asked_under s p id)) (option_and_then (request_key_of t (station_at r t).address) (meaning r.setting.exercise b)) false
        ≡ option_map_or (is_asked (station_at r s).address p) (option_and_then (meant_by_get r.setting.exercise) (cond c (Some (Get t b)) None)) false) [
          | true ↦ λ same.
              ap (λ k. option_map_or (same_request_key (asked_under s p id)) (option_and_then (request_key_of k (station_at r k).address) (meaning r.setting.exercise b)) false) (eqb-true t s same)
              ∙ elim (meaning r.setting.exercise b) as (λ o. option_map_or (same_request_key (asked_under s p id)) (option_and_then (request_key_of s (station_at r s).address) o) false
              ≡ option_map_or (is_asked (station_at r s).address p) o false) [
                | None ↦ refl
                | Some q ↦ key_is s (station_at r s).address p q id e
              ]
          | false ↦ λ far. elim (meaning r.setting.exercise b) as
              (λ o. option_map_or (same_request_key (asked_under s p id)) (option_and_then (request_key_of t (station_at r t).address) o) false ≡ false) [
                | None ↦ refl
                | Some q ↦ key_apart s t (station_at r t).address p q id far
              ]
        ] refl

-- what is found under the key is what the answer takes up
pub asked_is : (r : PlainRecording) (s : ℕ) (p : Pdu) (id : ℕ) (asks : Asks) → request_id_of p.body ≡ Some id → AreRequestKeys r (length r.entries) asks
    → get same_request_key asks (asked_under s p id) ≡ entry_taken_up r s p (length r.entries)
unfolding entry_taken_up
asked_is r s p id asks e tied = tied (asked_under s p id) ∙ same_first _ _ (brings_ask r s p id e) (length r.entries)

-- without an identifier it takes up nothing
pub unasked_is : (r : PlainRecording) (s n : ℕ) (p : Pdu) → request_id_of p.body ≡ None → entry_taken_up r s p n ≡ None
unfolding entry_taken_up
unasked_is r s n p e = no_first _ (λ j. brings_is r s p j ∙ none (got_pdu r s j)) n
  where
    off : (a b c : Bool) → (a && (b && (false && c))) ≡ false
    off true true c = refl
    off true false c = refl
    off false b c = refl

    none : (o : Option Pdu) → option_map_or (is_asked (station_at r s).address p) o false ≡ false
    none None = refl
    none (Some q) =
        ap (λ i. is_request_body q.body && (is_addressed q.target (station_at r s).address && (same_id i (request_id_of q.body) && same_pair q.origin p.target))) e
        ∙ off (is_request_body q.body) (is_addressed q.target (station_at r s).address) (same_pair q.origin p.target)

-- ---- all that is missing, one entry more

pub lacks_none : (r : PlainRecording) → missing_sends_below r 0 ≡ []
unfolding missing_sends_below
lacks_none r = refl

pub lacks_more : (r : PlainRecording) (n : ℕ) → missing_sends_below r (n + 1) ≡ missing_sends_below r n ++ option_to_list (missing_send_at r n)
unfolding missing_sends_below
lacks_more r n = ap (missing_sends_below r) (add-one n)
