-- What the waits of a blocked list say of the logs.
use Rattle.std.proofs.Common.{◌≡◌, ⊎_elim, ℕ, zero, suc, ◌<◌, ◌≤◌, List, [], ◌∷◌, ◌++◌, length, cond, Bool, Option, Some, None, true, false, refl, sym, ap, ◌∙◌, subst, arith}
use Rattle.std.specs.Prelude.{nat_eq, slice_get, option_map, option_and_then, ◌&&◌, ◌||◌, not, if◌then◌else◌}
use Rattle.std.specs.Option.{option_map_or}
use Rattle.std.specs.List.{list_any, filter_map, cons_option}
use Rattle.std.proofs.lemmas.Bool.{cases_lt, or_right, eqb-true}
use Rattle.std.proofs.lemmas.Option.{same_Some}
use Rattle.std.proofs.lemmas.Slice.Eq.{bytes_eq-Decides}
use Rattle.siman_pdus.specs.declared.pdu.Pdu.{Pdu}
use Rattle.exercise_model.specs.declared.cause.Cause.{Cause}
use Rattle.exercise_model.specs.declared.cause.Cause.TheVariants as causes
use Rattle.exercise_model.specs.declared.cause.Cause.TheVariants.{Stranger, NeverSent}
use Rattle.exercise_model.specs.Entry.{Entry, Sent, Received, Told}
use Rattle.exercise_model.specs.Recording.{PlainRecording}
use Rattle.exercise_model.specs.History.{Event, Send, Get, Tell, History, event_of, station_of, log_at, station_at}
use Rattle.exercise_model.specs.Setting.{SettingData, is_from, is_recorded, may_be_heard}
use Rattle.exercise_model.specs.Meaning.{meaning}
use Rattle.exercise_model.specs.Cause.{first_cause, sends, was_sent, get_cause, cause_of}
use Rattle.exercise_model.specs.Place.{own_event, log_before}
use Rattle.exercise_model.specs.Run.{IsBeginning, IsStuck, Contains}
use Rattle.exercise_model.specs.Account.{sender_of}
use Rattle.exercise_model.proofs.Offered.{beginning_length, first_found, log_before-more, log_before-next}
use Rattle.exercise_findings.specs.Tables.{own_cause}
use Rattle.exercise_findings.specs.Source.{sends_here, first_send, source_of_pdu, source_of_entry, source_of}
use Rattle.exercise_findings.proofs.Offered.{bytes_same}
use Rattle.exercise_check.specs.Judging.{is_never_sent}
use Rattle.exercise_audit.specs.declared.blocks.Block.{Block}
use Rattle.exercise_audit.specs.Audit.{IsBlock, IsDone, IsBlocked}
use Rattle.exercise_conflict.specs.declared.waits.Wait.{Wait}
use Rattle.exercise_conflict.specs.Waits.{block_of, waits_on, wait_by, wait_for, wait_of, waits_of, IsWait, Leads}
use Rattle.exercise_conflict.specs.Cycles.{wait_at, AreWaits}
use Rattle.exercise_conflict.proofs.Places.{from_log}
use Rattle.exercise_conflict.proofs.Blocks.{Each, Says, each_at, each_found, each_says, block_there, block_log, block_own, own_entry}

-- ---- where something comes from

-- entry i receives these bytes, which mean p; station t sends them first at entry k
pub record HasSource (r : PlainRecording) (i k : ℕ) : Type 0 where
  pub station : ℕ
  pub stamp : ℕ
  pub bytes : List ℕ
  pub pdu : Pdu
  pub sender : ℕ
  pub got : slice_get r.entries i ≡ Some (Received station stamp bytes)
  pub meant : meaning r.setting.exercise bytes ≡ Some pdu
  pub from : sender_of r pdu ≡ Some sender
  pub first : first_send r bytes sender ≡ Some k

pub has_source : (r : PlainRecording) (i k : ℕ) → source_of r i ≡ Some k → HasSource r i k
unfolding source_of
has_source r i k is =
    elim (slice_get r.entries i) as (λ o. slice_get r.entries i ≡ o → option_and_then (source_of_entry r) o ≡ Some k → HasSource r i k) [
      | None ↦ λ _ e. absurd (cc)
      | Some e ↦ λ at. of_entry e at
    ] refl is
  where
    of_sender : (s stamp : ℕ) (b : List ℕ) → slice_get r.entries i ≡ Some (Received s stamp b) → (p : Pdu) → meaning r.setting.exercise b ≡ Some p
        → (o : Option ℕ) → sender_of r p ≡ o → option_and_then (first_send r b) o ≡ Some k → HasSource r i k
    of_sender s stamp b at p meant None from e = absurd (cc)
    of_sender s stamp b at p meant (Some t) from e =
        record { station = s; stamp = stamp; bytes = b; pdu = p; sender = t; got = at; meant = meant; from = from; first = e }

    of_pdu : (s stamp : ℕ) (b : List ℕ) → slice_get r.entries i ≡ Some (Received s stamp b) → (o : Option Pdu) → meaning r.setting.exercise b ≡ o
        → option_and_then (source_of_pdu r b) o ≡ Some k → HasSource r i k
    of_pdu s stamp b at None meant e = absurd (cc)
    of_pdu s stamp b at (Some p) meant e = of_sender s stamp b at p meant (sender_of r p) refl e

    of_entry : (e : Entry) → slice_get r.entries i ≡ Some e → source_of_entry r e ≡ Some k → HasSource r i k
    of_entry (Sent s stamp b) at e = absurd (cc)
    of_entry (Told s n y) at e = absurd (cc)
    of_entry (Received s stamp b) at e = of_pdu s stamp b at (meaning r.setting.exercise b) refl e

-- an entry that sends these bytes
pub sends_is : (r : PlainRecording) (b : List ℕ) (t j : ℕ) → sends_here r b t j ≡ true → own_event r t j ≡ Some (Send t b)
sends_is r b t j passes =
    elim (own_event r t j) as (λ o. own_event r t j ≡ o → option_map_or (sends b) o false ≡ true → o ≡ Some (Send t b)) [
      | None ↦ λ _ e. absurd (cc)
      | Some v ↦ λ own e. send v (own_entry r t j v own).station e
    ] refl passes
  where
    send : (v : Event) → station_of v ≡ t → sends b v ≡ true → Some v ≡ Some (Send t b)
    send (Send s c) at e = ap (λ n. Some (Send n c)) at ∙ ap (λ x. Some (Send t x)) (sym ((bytes_eq-Decides b c).0 e))
    send (Get s c) at e = absurd (cc)
    send (Tell s n y) at e = absurd (cc)

pub source_sends : (r : PlainRecording) (b : List ℕ) (t k : ℕ) → first_send r b t ≡ Some k → own_event r t k ≡ Some (Send t b)
unfolding first_send
source_sends r b t k first = sends_is r b t k (first_found (sends_here r b t) (length r.entries) k first).passes

sender_within : (r : PlainRecording) (p : Pdu) (t : ℕ) → sender_of r p ≡ Some t → t < length r.setting.stations
unfolding sender_of
sender_within r p t found = (first_found (λ s. is_from (station_at r s).address p) (length r.setting.stations) t found).below

-- ---- what was sent

sent_later : (b : List ℕ) (later h : History) → was_sent b h ≡ true → was_sent b (later ++ h) ≡ true
unfolding was_sent
sent_later b [] h e = e
sent_later b (v ∷ later) h e = or_right _ _ (sent_later b later h e)

sent_here : (b : List ℕ) (s : ℕ) (h : History) → was_sent b (Send s b ∷ h) ≡ true
unfolding was_sent
sent_here b s h = ap (λ t. t || list_any (sends b) h) (bytes_same b)

-- what happened in a history was sent in it
pub was_sent_in : (b : List ℕ) (s : ℕ) (h before : History) → Contains h before (Send s b) → was_sent b h ≡ true
was_sent_in b s h before within =
    ap (was_sent b) (sym within.1) ∙ sent_later b within.0 (Send s b ∷ before) (sent_here b s before)

-- what stands in the log of a station was sent
pub was_sent_at : (b : List ℕ) (t : ℕ) (h l : History) → IsBeginning (Send t b ∷ l) (log_at t h) → was_sent b h ≡ true
was_sent_at b t h l begins =
    let event = from_log t h l (Send t b) begins.0 begins.1 in was_sent_in b t h event.before event.within

abbrev is_stranger : Cause → Bool
is_stranger Stranger = true
is_stranger cause = false

-- where something is judged never sent, nobody sent it
unsent_where : (w : SettingData) (h : History) (s : ℕ) (b : List ℕ) → cause_of w h (Get s b) ≡ Some NeverSent → was_sent b h ≡ true → ⊥
unfolding cause_of get_cause
unsent_where w h s b is sent =
    elim (meaning w.exercise b) as (λ o. option_and_then (get_cause w h b) o ≡ Some NeverSent → ⊥) [
      | None ↦ λ e. absurd (cc)
      | Some p ↦ λ e. rows (may_be_heard w p) (is_recorded w p) (was_sent b h) sent e
    ] is
  where
    rows : (heard known sent : Bool) → sent ≡ true → first_cause ((not heard, Stranger) ∷ (known && not sent, NeverSent) ∷ []) ≡ Some NeverSent → ⊥
    rows false known sent was e = absurd (cc (ap is_stranger (same_Some Stranger NeverSent e)))
    rows true false sent was e = absurd (cc)
    rows true true true was e = absurd (cc)
    rows true true false was e = absurd (cc)

-- ---- places of one log

pub begins_more : (v : Event) (h k : History) → IsBeginning h k → IsBeginning h (v ∷ k)
begins_more v h k p = (v ∷ p.0, ap (λ xs. v ∷ xs) p.1)

-- an entry of a station is in its log before a later entry
pub own_within : (r : PlainRecording) (s j i : ℕ) (v : Event) → own_event r s j ≡ Some v → j < i → IsBeginning (v ∷ log_before r s j) (log_before r s i)
own_within r s j zero v own below = absurd (omega (arith, below))
own_within r s j (suc i) v own below =
    ⊎_elim
    (λ (less : j < i).
    let before = own_within r s j i v own less in
    subst (IsBeginning (v ∷ log_before r s j)) (sym (log_before-more r s i))
    (elim (own_event r s i) as (λ o. IsBeginning (v ∷ log_before r s j) (option_map_or (λ w. w ∷ log_before r s i) o (log_before r s i))) [
      | None ↦ before
      | Some w ↦ begins_more w (v ∷ log_before r s j) (log_before r s i) before
    ]))
    (λ (most : i ≤ j).
    let same : j ≡ i = omega (arith, below, most) in (
      [],
      ap (λ m. v ∷ log_before r s m) same ∙ ap (λ o. option_map_or (λ w. w ∷ log_before r s i) o (log_before r s i))
          (sym (ap (own_event r s) (sym same) ∙ own)) ∙ sym (log_before-more r s i),
    ))
    (cases_lt j i)

-- ---- a wait, from its block

-- what an answer of `wait_of` is made of
record Made (r : PlainRecording) (blocks : List Block) (b : Block) (w : Wait) : Type 0 where
  pub unsent : b.cause ≡ NeverSent
  pub sent : ℕ
  pub source : source_of r b.entry ≡ Some sent
  pub entry : Entry
  pub at : slice_get r.entries sent ≡ Some entry
  pub other : Block
  pub on : block_of blocks (station_of (event_of entry)) ≡ Some other
  pub is : w ≡ waits_on b sent (station_of (event_of entry)) other

unsent_cause : (cause : Cause) → is_never_sent cause ≡ true → cause ≡ NeverSent
unsent_cause causes.NeverSent e = refl
unsent_cause causes.CountDiffers e = absurd (cc)
unsent_cause causes.NoSuchRecord e = absurd (cc)
unsent_cause causes.OutOfOrder e = absurd (cc)
unsent_cause causes.BadLink e = absurd (cc)
unsent_cause causes.WrongSender e = absurd (cc)
unsent_cause causes.ReusedIdentifier e = absurd (cc)
unsent_cause causes.NoRequest e = absurd (cc)
unsent_cause causes.WrongAnswer e = absurd (cc)
unsent_cause causes.ChangedAnswer e = absurd (cc)
unsent_cause causes.Impossible e = absurd (cc)
unsent_cause causes.Stranger e = absurd (cc)
unsent_cause causes.WrongState e = absurd (cc)

made : (r : PlainRecording) (blocks : List Block) (b : Block) (w : Wait) → wait_of r blocks b ≡ Some w → Made r blocks b w
unfolding wait_of
made r blocks b w is =
    elim (is_never_sent b.cause) as (λ t. is_never_sent b.cause ≡ t → (if t then option_and_then (wait_for r blocks b) (source_of r b.entry) else None) ≡ Some w
    → Made r blocks b w) [
      | false ↦ λ _ e. absurd (cc)
      | true ↦ λ unsent. elim (source_of r b.entry) as (λ o. source_of r b.entry ≡ o → option_and_then (wait_for r blocks b) o ≡ Some w → Made r blocks b w) [
        | None ↦ λ _ e. absurd (cc)
        | Some k ↦ λ source. of_source (unsent_cause b.cause unsent) k source
      ] refl
    ] refl is
  where
    of_block : b.cause ≡ NeverSent → (k : ℕ) → source_of r b.entry ≡ Some k → (e : Entry) → slice_get r.entries k ≡ Some e → (o : Option Block)
        → block_of blocks (station_of (event_of e)) ≡ o → option_map (waits_on b k (station_of (event_of e))) o ≡ Some w → Made r blocks b w
    of_block unsent k source e at None on is = absurd (cc)
    of_block unsent k source e at (Some other) on is = record {
      unsent = unsent;
      sent = k;
      source = source;
      entry = e;
      at = at;
      other = other;
      on = on;
      is = sym (same_Some (waits_on b k (station_of (event_of e)) other) w is);
    }

    of_source : b.cause ≡ NeverSent → (k : ℕ) → source_of r b.entry ≡ Some k → wait_for r blocks b k ≡ Some w → Made r blocks b w
    of_source unsent k source is =
        elim (slice_get r.entries k) as (λ o. slice_get r.entries k ≡ o → option_and_then (wait_by blocks b k) o ≡ Some w → Made r blocks b w) [
          | None ↦ λ _ e. absurd (cc)
          | Some e ↦ λ at. of_block unsent k source e at (block_of blocks (station_of (event_of e))) refl
        ] refl is

-- what is known of a block that was never sent what its source sends
record Waited (r : PlainRecording) (h : History) (b : Block) (k : ℕ) : Type 0 where
  pub source : HasSource r b.entry k
  pub own : b.station ≡ source.station
  pub sends : own_event r source.sender k ≡ Some (Send source.sender source.bytes)
  pub unsent : was_sent source.bytes h ≡ true → ⊥

waited : (r : PlainRecording) (h : History) (b : Block) (k : ℕ) → Says r h b → b.cause ≡ NeverSent → source_of r b.entry ≡ Some k → Waited r h b k
waited r h b k block unsent is =
    let source = has_source r b.entry k is in
    let own = own_entry r b.station b.entry block.event block.next.own in
    let entry : own.entry ≡ Received source.station source.stamp source.bytes = same_Some own.entry (Received source.station source.stamp source.bytes) (sym own.at ∙ source.got) in
    let event : block.event ≡ Get source.station source.bytes = sym own.is ∙ ap event_of entry in
    let cause : cause_of r.setting h (Get source.station source.bytes) ≡ Some NeverSent =
    ap (cause_of r.setting h) (sym event) ∙ block.cause ∙ ap Some unsent in
    record {
      source = source;
      own = sym own.station ∙ ap station_of event;
      sends = source_sends r source.bytes source.sender k source.first;
      unsent = unsent_where r.setting h source.station source.bytes cause;
    }

-- the station of the source is not done
left : (r : PlainRecording) (h : History) (t k : ℕ) (b : List ℕ) → own_event r t k ≡ Some (Send t b) → (was_sent b h ≡ true → ⊥) → IsDone r h t → ⊥
left r h t k b sends unsent done =
    unsent (was_sent_at b t h (log_before r t k) (subst (IsBeginning (Send t b ∷ log_before r t k)) (sym done) (log_before-next r t k (Send t b) sends)))

-- and its next entry comes no later
no_later : (r : PlainRecording) (h : History) (t k : ℕ) (b : List ℕ) (other : Block) → IsStuck r h → IsBlock r h t other → own_event r t k ≡ Some (Send t b)
    → (was_sent b h ≡ true → ⊥) → other.entry ≤ k
no_later r h t k b other stuck block sends unsent =
    ⊎_elim
    (λ (less : k < other.entry). absurd (unsent (was_sent_at b t h (log_before r t k)
    (subst (IsBeginning (Send t b ∷ log_before r t k)) (sym (block_log r h t other stuck block)) (own_within r t k other.entry (Send t b) sends less)))))
    (λ (most : other.entry ≤ k). most)
    (cases_lt k other.entry)

-- what is read of the entry of a source
at_source : (r : PlainRecording) (t k : ℕ) (b : List ℕ) (e : Entry) → own_event r t k ≡ Some (Send t b) → slice_get r.entries k ≡ Some e → station_of (event_of e) ≡ t
at_source r t k b e sends at =
    let own = own_entry r t k (Send t b) sends in
    ap (λ x. station_of (event_of x)) (same_Some e own.entry (sym at ∙ own.at)) ∙ ap station_of own.is

-- A WAIT OF A BLOCKED LIST SAYS WHAT IS SO
pub wait_holds : (r : PlainRecording) (h : History) (blocks : List Block) (b : Block) (w : Wait) → IsStuck r h → Each (Says r h) blocks → Says r h b
    → wait_of r blocks b ≡ Some w → IsWait r w × (w.station ≡ b.station) × ((other : Block) → block_of blocks w.on ≡ Some other → w.next ≡ other.entry)
wait_holds r h blocks b w stuck says block is =
    let m = made r blocks b w is in
    let from = waited r h b m.sent block m.unsent m.source in
    let source = from.source in
    let t : ℕ = source.sender in
    let at : station_of (event_of m.entry) ≡ t = at_source r t m.sent source.bytes m.entry from.sends m.at in
    let on : block_of blocks t ≡ Some m.other = ap (block_of blocks) (sym at) ∙ m.on in
    let found = each_found (Says r h) blocks t m.other says on in
    let other : IsBlock r h t m.other = subst (λ k. IsBlock r h k m.other) found.1 found.0 in
    let is_w : w ≡ waits_on b m.sent t m.other = m.is ∙ ap (λ k. waits_on b m.sent k m.other) at in (
      subst (IsWait r) (sym is_w) (record {
        stamp = source.stamp;
        bytes = source.bytes;
        got = source.got ∙ ap (λ k. Some (Received k source.stamp source.bytes)) (sym from.own);
        source = m.source;
        sends = from.sends;
        event = other.event;
        next = other.next.own;
        earlier = no_later r h t m.sent source.bytes m.other stuck other from.sends from.unsent;
      }),
      ap (λ (x : Wait). x.station) is_w,
      λ o found. ap (λ (x : Wait). x.next) is_w ∙ ap (λ (x : Block). x.entry) (same_Some m.other o (sym on ∙ ap (λ (x : Wait). block_of blocks x.on) (sym is_w) ∙ found)),
    )

-- A STATION THAT WAITS FOR A SOURCE LEADS TO ANOTHER
pub leads : (r : PlainRecording) (blocks : List Block) (n : ℕ) (b : Block) (k : ℕ) → IsBlocked r blocks → slice_get blocks n ≡ Some b → b.cause ≡ NeverSent
    → source_of r b.entry ≡ Some k → Leads r blocks b
unfolding wait_of
leads r blocks n b k blocked at unsent is =
    let h : History = blocked.some_end.0 in
    let stuck = blocked.some_end.1 in
    let are = blocked.blocks_are h stuck in
    let says = each_says r h (length r.setting.stations) blocks are in
    let block = each_at (Says r h) blocks n b says at in
    let from = waited r h b k block unsent is in
    let t : ℕ = from.source.sender in
    let there = block_there r h (length r.setting.stations) blocks t are (sender_within r from.source.pdu t from.source.from)
    (left r h t k from.source.bytes from.sends from.unsent) in
    let entry = own_entry r t k (Send t from.source.bytes) from.sends in
    let own : station_of (event_of entry.entry) ≡ t = ap station_of entry.is in
    let gives : wait_of r blocks b ≡ Some (waits_on b k t there.0) =
    ap (λ c. if is_never_sent c then option_and_then (wait_for r blocks b) (source_of r b.entry) else None) unsent
    ∙ ap (option_and_then (wait_for r blocks b)) is
    ∙ ap (option_and_then (wait_by blocks b k)) entry.at
    ∙ ap (λ s. option_map (waits_on b k s) (block_of blocks s)) own
    ∙ ap (option_map (waits_on b k t)) there.1 in
    record {
      wait = waits_on b k t there.0;
      is = gives;
      holds = (wait_holds r h blocks b (waits_on b k t there.0) stuck says block gives).0;
      other = there.0;
      on = there.1;
      next = refl;
    }

-- ---- all waits of a list

-- the block that a wait was made of
record MadeOf (r : PlainRecording) (P : Block → Type 0) (all : List Block) (s : ℕ) (w : Wait) : Type 0 where
  pub block : Block
  pub holds : P block
  pub is : wait_of r all block ≡ Some w
  pub station : w.station ≡ s

made_of : (r : PlainRecording) (P : Block → Type 0) (all blocks : List Block) (s : ℕ) (w : Wait) → Each P blocks
    → wait_at (filter_map (wait_of r all) blocks) s ≡ Some w → MadeOf r P all s w
unfolding wait_at
made_of r P all [] s w each is = absurd (cc)
made_of r P all (b ∷ blocks) s w each is =
    elim (wait_of r all b) as (λ o. wait_of r all b ≡ o → wait_at (cons_option o (filter_map (wait_of r all) blocks)) s ≡ Some w → MadeOf r P all s w) [
      | None ↦ λ _ e. made_of r P all blocks s w each.1 e
      | Some x ↦ λ made. elim (nat_eq x.station s) as (λ q. nat_eq x.station s ≡ q
          → cond q (Some x) (wait_at (filter_map (wait_of r all) blocks) s) ≡ Some w → MadeOf r P all s w) [
            | false ↦ λ _ e. made_of r P all blocks s w each.1 e
            | true ↦ λ own e.
                let same = same_Some x w e in
                record { block = b; holds = each.0; is = made ∙ ap Some same; station = ap (λ (y : Wait). y.station) (sym same) ∙ eqb-true x.station s own }
          ] refl
    ] refl is

-- two entries of a station with as many of its entries before them are one
rank_less : (r : PlainRecording) (t i j : ℕ) (v : Event) → own_event r t i ≡ Some v → i < j → length (log_before r t i) < length (log_before r t j)
rank_less r t i j v own less = omega (arith, beginning_length (v ∷ log_before r t i) (log_before r t j) (own_within r t i j v own less))

same_entry : (r : PlainRecording) (h : History) (t : ℕ) (c d : Block) → IsBlock r h t c → IsBlock r h t d → c.entry ≡ d.entry
same_entry r h t c d one other =
    ⊎_elim
    (λ (less : c.entry < d.entry). absurd (omega (arith, rank_less r t c.entry d.entry one.event one.next.own less, one.next.place, other.next.place)))
    (λ (most : d.entry ≤ c.entry). ⊎_elim
    (λ (less : d.entry < c.entry). absurd (omega (arith, rank_less r t d.entry c.entry other.event other.next.own less, one.next.place, other.next.place)))
    (λ (more : c.entry ≤ d.entry). omega (arith, most, more))
    (cases_lt d.entry c.entry))
    (cases_lt c.entry d.entry)

-- where a station waits on one that waits too, its next is the entry of that one
waits_join : (r : PlainRecording) (h : History) (blocks : List Block) (s : ℕ) (w u : Wait) → IsStuck r h → Each (Says r h) blocks
    → wait_at (waits_of r blocks) s ≡ Some w → wait_at (waits_of r blocks) w.on ≡ Some u → w.next ≡ u.entry
waits_join r h blocks s w u stuck says one other =
    let mw = made_of r (Says r h) blocks blocks s w says one in
    let mu = made_of r (Says r h) blocks blocks w.on u says other in
    let hw = wait_holds r h blocks mw.block w stuck says mw.holds mw.is in
    let hu = wait_holds r h blocks mu.block u stuck says mu.holds mu.is in
    let of_w = made r blocks mw.block w mw.is in
    let of_u = made r blocks mu.block u mu.is in
    let on : block_of blocks w.on ≡ Some of_w.other = ap (λ (x : Wait). block_of blocks x.on) of_w.is ∙ of_w.on in
    let found = each_found (Says r h) blocks w.on of_w.other says on in
    let first : IsBlock r h w.on of_w.other = subst (λ k. IsBlock r h k of_w.other) found.1 found.0 in
    let second : IsBlock r h w.on mu.block = subst (λ k. IsBlock r h k mu.block) (sym hu.1 ∙ mu.station) mu.holds in
    hw.2 of_w.other on ∙ same_entry r h w.on of_w.other mu.block first second ∙ sym (ap (λ (x : Wait). x.entry) of_u.is)

-- THE WAITS OF A BLOCKED LIST HOLD
pub waits_hold : (r : PlainRecording) (blocks : List Block) → IsBlocked r blocks → AreWaits r (waits_of r blocks)
waits_hold r blocks blocked =
    let h : History = blocked.some_end.0 in
    let stuck = blocked.some_end.1 in
    let says = each_says r h (length r.setting.stations) blocks (blocked.blocks_are h stuck) in
    record {
      each = λ s w at. let m = made_of r (Says r h) blocks blocks s w says at in (wait_holds r h blocks m.block w stuck says m.holds m.is).0;
      on = λ s w u one other. waits_join r h blocks s w u stuck says one other;
    }

-- THE CAUSE OF A BLOCK IS THE OWN CAUSE OF ITS ENTRY
pub blocks_own : (r : PlainRecording) (blocks : List Block) (n : ℕ) (b : Block) → IsBlocked r blocks → slice_get blocks n ≡ Some b
    → own_cause r b.entry ≡ Some b.cause
blocks_own r blocks n b blocked at =
    let h : History = blocked.some_end.0 in
    let stuck = blocked.some_end.1 in
    block_own r h b.station b stuck (each_at (Says r h) blocks n b (each_says r h (length r.setting.stations) blocks (blocked.blocks_are h stuck)) at)
