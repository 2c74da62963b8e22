-- Where a datagram was sent first by the station that it comes from.
use Rattle.std.proofs.Common.{◌≡◌, ℕ, zero, suc, ◌+◌, ◌<◌, List, [], ◌∷◌, length, cond, Bool, Option, Some, None, true, false, refl, sym, ap, ◌∙◌, arith}
use Rattle.std.specs.Prelude.{◌≤◌, ◌-◌, slice_get, nat_eq, nat_lt, bytes_eq, option_and_then, IfSome, IfNone}
use Rattle.std.specs.Option.{option_map_or}
use Rattle.std.specs.Cmp.Lexicographic.{bytes_decides}
use Rattle.std.proofs.lemmas.Bool.{eqb-true, eq-eqb}
use Rattle.std.proofs.lemmas.Option.{cond_some}
use Rattle.siman_pdus.specs.declared.pdu.Pdu.{Pdu}
use Rattle.exercise_model.specs.Entry.{Entry, Sent, Received, Told}
use Rattle.exercise_model.specs.Recording.{PlainRecording, IsRecording}
use Rattle.exercise_model.specs.History.{Send, event_of, station_of, station_at}
use Rattle.exercise_model.specs.Meaning.{meaning}
use Rattle.exercise_model.specs.Setting.{is_from}
use Rattle.exercise_model.specs.Cause.{sends}
use Rattle.exercise_model.specs.Place.{event_at, own_event, first_below}
use Rattle.exercise_model.specs.Account.{sender_of}
use Rattle.exercise_model.proofs.Offered.{first_found, sender_found}
use Rattle.exercise_findings.specs.declared.kept.Kept.{Kept}
use Rattle.exercise_findings.specs.Hashed.{datagram_hash}
use Rattle.exercise_findings.specs.Slots.{IsReached, HasSlot}
use Rattle.exercise_findings.proofs.Keyed.{before_entry, first_before}
use Rattle.exercise_findings.specs.Senders.{sends_at, AreSenders}
use Rattle.exercise_findings.specs.Source.{sends_here, first_send, source_of_pdu, source_of_bytes, source_of_entry, source_of, is_source, first_source, source_by, source_at}
use Rattle.exercise_findings.proofs.Keyed.{no_first, first_earlier}
use Rattle.exercise_findings.proofs.Keeping.{looked_up, order_stands, order_first}

-- the entry of a place
pub entry_within : (entries : List Entry) (i : ℕ) → i < length entries → (e : Entry) × (slice_get entries i ≡ Some e)
entry_within [] i within = absurd (omega arith)
entry_within (e ∷ entries) zero within = (e, refl)
entry_within (e ∷ entries) (suc i) within = entry_within entries i (omega arith)

-- ---- what one entry is

-- where nothing is meant, or it comes from no recorded station, no entry is a source
abbrev by_sender : PlainRecording → List ℕ → ℕ → Option ℕ → Bool
by_sender r b j o = option_map_or (λ t. sends_here r b t j) o false

pub unmeant : (r : PlainRecording) (b : List ℕ) (j : ℕ) → meaning r.setting.exercise b ≡ None → is_source r b j ≡ false
unmeant r b j other = ap (λ o. option_map_or (λ p. by_sender r b j (sender_of r p)) o false) other

-- what an entry sends at a station
pub sends_there : (r : PlainRecording) (j s stamp : ℕ) (c b : List ℕ) (t : ℕ) → slice_get r.entries j ≡ Some (Sent s stamp c)
    → sends_here r b t j ≡ cond (nat_eq s t) (bytes_eq b c) false
unfolding own_event
sends_there r j s stamp c b t at =
    ap (λ o. option_map_or (sends b) (option_and_then (λ e. event_at t (event_of e)) o) false) at
    ∙ elim (nat_eq s t) as (λ q. option_map_or (sends b) (cond q (Some (Send s c)) None) false ≡ cond q (bytes_eq b c) false) [ true ↦ refl | false ↦ refl ]

pub bytes_same : (b : List ℕ) → bytes_eq b b ≡ true
bytes_same b = (bytes_decides b b).1 refl

-- what a station is found to send comes from it
sender_passes : (r : PlainRecording) (p : Pdu) (t : ℕ) → sender_of r p ≡ Some t → is_from (station_at r t).address p ≡ true
unfolding sender_of
sender_passes r p t is = (first_found (λ k. is_from (station_at r k).address p) (length r.setting.stations) t is).passes

-- an entry that sends a PDU is a source exactly where the PDU comes from its station
pub sent_from : (r : PlainRecording) (j s stamp : ℕ) (b : List ℕ) (p : Pdu) → IsRecording r → s < length r.setting.stations
    → slice_get r.entries j ≡ Some (Sent s stamp b) → meaning r.setting.exercise b ≡ Some p → is_source r b j ≡ is_from (station_at r s).address p
sent_from r j s stamp b p limits here at means =
    ap (λ o. option_map_or (λ p. by_sender r b j (sender_of r p)) o false) means ∙ own (is_from (station_at r s).address p) refl
  where
    its : (t : ℕ) → by_sender r b j (Some t) ≡ cond (nat_eq s t) true false
    its t = sends_there r j s stamp b b t at ∙ ap (λ q. cond (nat_eq s t) q false) (bytes_same b)

    apart : (o : Option ℕ) → sender_of r p ≡ o → is_from (station_at r s).address p ≡ false → by_sender r b j o ≡ false
    apart None is off = refl
    apart (Some t) is off =
        its t ∙ elim (nat_eq s t) as (λ q. nat_eq s t ≡ q → cond q true false ≡ false) [
          | false ↦ λ _. refl
          | true ↦ λ same. absurd (cc (sym off ∙ ap (λ k. is_from (station_at r k).address p) (eqb-true s t same) ∙ sender_passes r p t is))
        ] refl

    own : (q : Bool) → is_from (station_at r s).address p ≡ q → by_sender r b j (sender_of r p) ≡ is_from (station_at r s).address p
    own true from = ap (by_sender r b j) (sender_found r limits p s here from) ∙ its s ∙ ap (λ q. cond q true false) (eq-eqb s s refl) ∙ sym from
    own false off = apart (sender_of r p) refl off ∙ sym off

-- what sends nothing at any station is no source
no_source : (r : PlainRecording) (b : List ℕ) (j : ℕ) → ((t : ℕ) → sends_here r b t j ≡ false) → is_source r b j ≡ false
no_source r b j none =
    elim (meaning r.setting.exercise b) as (λ o. option_map_or (λ p. by_sender r b j (sender_of r p)) o false ≡ false) [
      | None ↦ refl
      | Some p ↦ elim (sender_of r p) as (λ o. by_sender r b j o ≡ false) [ None ↦ refl | Some t ↦ none t ]
    ]

-- an entry is no source of other bytes
other_bytes : (r : PlainRecording) (j s stamp : ℕ) (c b : List ℕ) → slice_get r.entries j ≡ Some (Sent s stamp c) → bytes_eq b c ≡ false
    → is_source r b j ≡ false
other_bytes r j s stamp c b at apart = no_source r b j (λ t. sends_there r j s stamp c b t at ∙ rw apart (never (nat_eq s t)))
  where
    never : (q : Bool) → cond q false false ≡ false
    never true = refl
    never false = refl

sends_nowhere : (r : PlainRecording) (b : List ℕ) (t j : ℕ) → slice_get r.entries j ≡ None → sends_here r b t j ≡ false
unfolding own_event
sends_nowhere r b t j at = ap (λ o. option_map_or (sends b) (option_and_then (λ e. event_at t (event_of e)) o) false) at

sends_never : (r : PlainRecording) (b : List ℕ) (t j : ℕ) (e : Entry) → slice_get r.entries j ≡ Some e → sends b (event_of e) ≡ false
    → sends_here r b t j ≡ false
unfolding own_event
sends_never r b t j e at none =
    ap (λ o. option_map_or (sends b) (option_and_then (λ e. event_at t (event_of e)) o) false) at
    ∙ elim (nat_eq (station_of (event_of e)) t) as (λ q. option_map_or (sends b) (cond q (Some (event_of e)) None) false ≡ false)
    [ true ↦ none | false ↦ refl ]

pub not_sent : (r : PlainRecording) (j : ℕ) (e : Entry) → slice_get r.entries j ≡ Some e → ((b : List ℕ) → sends b (event_of e) ≡ false)
    → (b : List ℕ) → is_source r b j ≡ false
not_sent r j e at none b = no_source r b j (λ t. sends_never r b t j e at (none b))

pub never_source : (r : PlainRecording) (j : ℕ) (e : Entry) → slice_get r.entries j ≡ Some e → source_at r j ≡ false
    → (b : List ℕ) → is_source r b j ≡ false
unfolding source_at
never_source r j e at off b = of_entry e at (sym (ap (λ o. option_map_or (source_by r j) o false) at) ∙ off)
  where
    of_entry : (e : Entry) → slice_get r.entries j ≡ Some e → source_by r j e ≡ false → is_source r b j ≡ false
    of_entry (Sent s stamp c) at off =
        elim (bytes_eq b c) as (λ q. bytes_eq b c ≡ q → is_source r b j ≡ false) [
          | false ↦ λ apart. other_bytes r j s stamp c b at apart
          | true ↦ λ same. ap (λ x. is_source r x j) ((bytes_decides b c).0 same) ∙ off
        ] refl
    of_entry (Received s stamp c) at off = not_sent r j (Received s stamp c) at (λ b. refl) b
    of_entry (Told s e y) at off = not_sent r j (Told s e y) at (λ b. refl) b

-- ---- what an entry is a source of

-- an entry is a source of nothing but what it sends
pub source_own : (r : PlainRecording) (n s stamp : ℕ) (c : List ℕ) → slice_get r.entries n ≡ Some (Sent s stamp c) → (b : List ℕ) → is_source r b n ≡ true → b ≡ c
source_own r n s stamp c at b is =
    elim (bytes_eq b c) as (λ q. bytes_eq b c ≡ q → b ≡ c) [
      | true ↦ λ same. (bytes_decides b c).0 same
      | false ↦ λ apart. absurd (cc (sym is ∙ other_bytes r n s stamp c b at apart))
    ] refl

pub source_is : (r : PlainRecording) (n s stamp : ℕ) (c : List ℕ) → slice_get r.entries n ≡ Some (Sent s stamp c) → source_at r n ≡ true → is_source r c n ≡ true
unfolding source_at
source_is r n s stamp c at source = sym (ap (λ o. option_map_or (source_by r n) o false) at) ∙ source

-- what is a source is a send
pub sent_at : (r : PlainRecording) (j : ℕ) → source_at r j ≡ true
    → (s : ℕ) × ((stamp : ℕ) × ((b : List ℕ) × (slice_get r.entries j ≡ Some (Sent s stamp b))))
unfolding source_at
sent_at r j source = by_entry (slice_get r.entries j) refl
  where
    by : (o : Option Entry) → slice_get r.entries j ≡ o → option_map_or (source_by r j) o false ≡ true
    by o at = sym (ap (λ o. option_map_or (source_by r j) o false) at) ∙ source

    by_entry : (o : Option Entry) → slice_get r.entries j ≡ o → (s : ℕ) × ((stamp : ℕ) × ((b : List ℕ) × (slice_get r.entries j ≡ Some (Sent s stamp b))))
    by_entry None at = absurd (cc (by None at))
    by_entry (Some (Sent s stamp b)) at = (s, (stamp, (b, at)))
    by_entry (Some (Received s stamp b)) at = absurd (cc (by (Some (Received s stamp b)) at))
    by_entry (Some (Told s e y)) at = absurd (cc (by (Some (Told s e y)) at))

-- what is a source of bytes is a send of these bytes, by the station that they come from
pub source_entry : (r : PlainRecording) (b : List ℕ) (j : ℕ) → is_source r b j ≡ true
    → (t : ℕ) × ((option_and_then (sender_of r) (meaning r.setting.exercise b) ≡ Some t) × ((stamp : ℕ) × (slice_get r.entries j ≡ Some (Sent t stamp b))))
source_entry r b j is = by_meaning (meaning r.setting.exercise b) refl
  where
    Entry_of : Type 0
    Entry_of = (t : ℕ) × ((option_and_then (sender_of r) (meaning r.setting.exercise b) ≡ Some t) × ((stamp : ℕ) × (slice_get r.entries j ≡ Some (Sent t stamp b))))

    by_entry : (t : ℕ) → sends_here r b t j ≡ true → (o : Option Entry) → slice_get r.entries j ≡ o → (stamp : ℕ) × (slice_get r.entries j ≡ Some (Sent t stamp b))
    by_entry t sent None at = absurd (cc (sym (sends_nowhere r b t j at) ∙ sent))
    by_entry t sent (Some (Sent s stamp c)) at =
        let both : cond (nat_eq s t) (bytes_eq b c) false ≡ true = sym (sends_there r j s stamp c b t at) ∙ sent in
        elim (nat_eq s t) as (λ q. nat_eq s t ≡ q → cond q (bytes_eq b c) false ≡ true → (stamp : ℕ) × (slice_get r.entries j ≡ Some (Sent t stamp b))) [
          | false ↦ λ _ none. absurd (cc none)
          | true ↦ λ same eq.
              (stamp, at ∙ ap (λ u. Some (Sent u stamp c)) (eqb-true s t same) ∙ ap (λ (x : List ℕ). Some (Sent t stamp x)) (sym ((bytes_decides b c).0 eq)))
        ] refl both
    by_entry t sent (Some (Received s stamp c)) at = absurd (cc (sym (sends_never r b t j (Received s stamp c) at refl) ∙ sent))
    by_entry t sent (Some (Told s e y)) at = absurd (cc (sym (sends_never r b t j (Told s e y) at refl) ∙ sent))

    by_sender_of : (p : Pdu) → meaning r.setting.exercise b ≡ Some p → (o : Option ℕ) → sender_of r p ≡ o → by_sender r b j o ≡ true → Entry_of
    by_sender_of p means None from passes = absurd (cc passes)
    by_sender_of p means (Some t) from passes =
        (t, (ap (option_and_then (sender_of r)) means ∙ from, by_entry t passes (slice_get r.entries j) refl))

    by_meaning : (o : Option Pdu) → meaning r.setting.exercise b ≡ o → Entry_of
    by_meaning None means = absurd (cc (sym (unmeant r b j means) ∙ is))
    by_meaning (Some p) means =
        by_sender_of p means (sender_of r p) refl (sym (ap (λ o. option_map_or (λ p. by_sender r b j (sender_of r p)) o false) means) ∙ is)

-- ---- what is looked up

-- among sources, those of the bytes of a datagram are the entries that send them
pub sends_source : (r : PlainRecording) (b : List ℕ) (j : ℕ) → source_at r j ≡ true → sends_at r b j ≡ is_source r b j
unfolding source_at
sends_source r b j source = of_entry (slice_get r.entries j) refl
  where
    by : (o : Option Entry) → slice_get r.entries j ≡ o → option_map_or (source_by r j) o false ≡ true
    by o at = sym (ap (λ o. option_map_or (source_by r j) o false) at) ∙ source

    of_sent : (s stamp : ℕ) (c : List ℕ) → slice_get r.entries j ≡ Some (Sent s stamp c) → (q : Bool) → bytes_eq b c ≡ q → q ≡ is_source r b j
    of_sent s stamp c at true same = sym (ap (λ x. is_source r x j) ((bytes_decides b c).0 same) ∙ by (Some (Sent s stamp c)) at)
    of_sent s stamp c at false apart = sym (other_bytes r j s stamp c b at apart)

    of_entry : (o : Option Entry) → slice_get r.entries j ≡ o → sends_at r b j ≡ is_source r b j
    of_entry None at = absurd (cc (by None at))
    of_entry (Some (Sent s stamp c)) at =
        ap (λ o. option_map_or (λ e. sends b (event_of e)) o false) at ∙ of_sent s stamp c at (bytes_eq b c) refl
    of_entry (Some (Received s stamp c)) at = absurd (cc (by (Some (Received s stamp c)) at))
    of_entry (Some (Told s e y)) at = absurd (cc (by (Some (Told s e y)) at))

pub senders_looked_up : (r : PlainRecording) (n : ℕ) (senders : Kept) (b : List ℕ) (o : Option ℕ) → AreSenders r n senders
    → IfSome o (λ e. HasSlot senders.slots.slots e × (sends_at r b e ≡ true))
    → IfNone o ((e : ℕ) → IsReached senders.slots.slots (datagram_hash b) e → sends_at r b e ≡ false) → o ≡ first_source r b n
unfolding first_source
senders_looked_up r n senders b o tied found absent =
    looked_up (is_source r) datagram_hash n senders.slots.slots b (sends_at r b) tied.kept.first
    (λ e stands. sends_source r b e (tied.sources e stands)) o found absent

-- an entry that was kept is the first source of what it sends
kept_found : (r : PlainRecording) (n : ℕ) (senders : Kept) (b : List ℕ) (i e : ℕ) → AreSenders r n senders
    → slice_get senders.order.items i ≡ Some e → sends_at r b e ≡ true → first_source r b n ≡ Some e
unfolding first_source
kept_found r n senders b i e tied at sends =
    order_first (is_source r) datagram_hash n senders b i e tied.kept at
    (sym (sends_source r b e (tied.sources e (order_stands (is_source r) datagram_hash n senders i e tied.kept at))) ∙ sends)

pub order_found : (r : PlainRecording) (n : ℕ) (senders : Kept) (b : List ℕ) (i : ℕ) (o : Option ℕ) → AreSenders r n senders
    → IfSome o (λ e. (slice_get senders.order.items i ≡ Some e) × (sends_at r b e ≡ true)) → IfSome o (λ e. first_source r b n ≡ Some e)
order_found r n senders b i None tied here = tt
order_found r n senders b i (Some e) tied here = kept_found r n senders b i e tied here.0 here.1

-- ---- what the whole table says

-- the first source of bytes in the whole log is where what has these bytes comes from
pub source_whole : (r : PlainRecording) (b : List ℕ) → first_source r b (length r.entries) ≡ source_of_bytes r b
unfolding first_source first_send
source_whole r b =
    elim (meaning r.setting.exercise b) as (λ o. first_below (λ j. option_map_or (λ p. by_sender r b j (sender_of r p)) o false) (length r.entries)
    ≡ option_and_then (source_of_pdu r b) o) [
      | None ↦ no_first _ (λ j. refl) (length r.entries)
      | Some p ↦ elim (sender_of r p) as (λ o. first_below (λ j. by_sender r b j o) (length r.entries) ≡ option_and_then (first_send r b) o) [
        | None ↦ no_first _ (λ j. refl) (length r.entries)
        | Some t ↦ refl
      ]
    ]

pub source_here : (r : PlainRecording) (i : ℕ) (e : Entry) → slice_get r.entries i ≡ Some e → source_of r i ≡ source_of_entry r e
unfolding source_of
source_here r i e at = ap (option_and_then (source_of_entry r)) at

pub source_past : (r : PlainRecording) (i : ℕ) → slice_get r.entries i ≡ None → source_of r i ≡ None
unfolding source_of
source_past r i past = ap (option_and_then (source_of_entry r)) past

-- a source is an entry
pub source_within : (r : PlainRecording) (i : ℕ) → IfSome (source_of r i) (λ e. e < length r.entries)
unfolding source_of first_send
source_within r i =
    elim (slice_get r.entries i) as (λ o. IfSome (option_and_then (source_of_entry r) o) (λ e. e < length r.entries)) [
      | None ↦ tt
      | Some e ↦ elim e as (λ e. IfSome (source_of_entry r e) (λ e. e < length r.entries)) [
        | Sent s stamp b ↦ tt
        | Received s stamp b ↦ elim (meaning r.setting.exercise b) as (λ o. IfSome (option_and_then (source_of_pdu r b) o) (λ e. e < length r.entries)) [
          | None ↦ tt
          | Some p ↦ elim (sender_of r p) as (λ o. IfSome (option_and_then (first_send r b) o) (λ e. e < length r.entries)) [
            | None ↦ tt
            | Some t ↦ first_earlier (sends_here r b t) (length r.entries)
          ]
        ]
        | Told s x y ↦ tt
      ]
    ]

-- ---- a source that stands before

before_some : (n : ℕ) (o : Option ℕ) (e : ℕ) → before_entry n o ≡ Some e → o ≡ Some e
before_some n None e h = absurd (cc)
before_some n (Some x) e h = ap Some ((cond_some (nat_lt x n) x e h).1)

-- the first source among fewer entries is the first among more
pub source_stays : (r : PlainRecording) (b : List ℕ) (n m e : ℕ) → n ≤ m → first_source r b n ≡ Some e → first_source r b m ≡ Some e
unfolding first_source
source_stays r b n m e le is =
    let same : m ≡ n + (m - n) = omega (arith, le) in
    ap (first_below (is_source r b)) same
    ∙ before_some n (first_below (is_source r b) (n + (m - n))) e (first_before (is_source r b) n (m - n) ∙ is)

pub source_below : (r : PlainRecording) (b : List ℕ) (n : ℕ) → IfSome (first_source r b n) (λ e. e < n)
unfolding first_source
source_below r b n = first_earlier (is_source r b) n
