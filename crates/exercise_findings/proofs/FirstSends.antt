-- The first sends of a log, one entry after another, and what is known to be sent for the first time.
use Rattle.std.proofs.Common.{◌≡◌, ℕ, zero, suc, ◌+◌, ◌<◌, ◌≤◌, List, [], ◌∷◌, ◌++◌, length, length-append, Option, Some, None, Bool, true, false, refl, sym, ap, ◌∙◌, subst, ⊎_elim, inl, inr, arith}
use Rattle.std.specs.Prelude.{◌≢◌, ◌⊎◌, IfSome, slice_get, option_and_then, if◌then◌else◌}
use Rattle.std.specs.Option.{option_or}
use Rattle.std.proofs.lemmas.Bool.{cases_eq, cases_lt}
use Rattle.std.proofs.lemmas.Option.{same_Some, none-some, slice_get_within}
use Rattle.exercise_model.specs.Entry.{Sent}
use Rattle.exercise_model.specs.Recording.{PlainRecording}
use Rattle.exercise_model.specs.History.{Send, event_of}
use Rattle.exercise_model.specs.Place.{first_below}
use Rattle.exercise_findings.specs.declared.first_sends.FirstSends.{FirstSends}
use Rattle.exercise_findings.specs.FirstSends.{IsFirstSend, AreFirstSends, IsNewSend, IsNewKey}
use Rattle.exercise_findings.specs.Firsts.{event_key, key_at, has_key, first_under}
use Rattle.exercise_findings.specs.Hashed.{datagram_hash}
use Rattle.exercise_findings.specs.Kept.{IsAppended}
use Rattle.exercise_findings.specs.Senders.{sends_at, AreSenders}
use Rattle.exercise_findings.specs.Slots.{IsReached, IsPut, HasSlot}
use Rattle.exercise_findings.specs.Source.{is_source, source_at, first_source}
use Rattle.exercise_findings.proofs.FirstEntries.{its_key}
use Rattle.exercise_findings.proofs.Keeping.{none_here, later_here, new_here}
use Rattle.exercise_findings.proofs.Keyed.{passes}
use Rattle.exercise_findings.proofs.Sources.{source_below, source_entry, source_own, source_is, sends_source, sent_at}
use Rattle.exercise_findings.proofs.Standing.{stands_none}
use Rattle.exercise_findings.proofs.Tied.{get-pushed_here, get-pushed_other}

-- ---- what is sent for the first time

-- below a number below which none passes, none passes
pub none_passes : (f : ℕ → Bool) (n j : ℕ) → first_below f n ≡ None → j < n → f j ≡ true → (P : Type 0) → P
unfolding first_below
none_passes f zero j none within passes P = absurd (omega (arith, within))
none_passes f (suc n) j none within passes P =
    elim (first_below f n) as (λ o. first_below f n ≡ o → option_or o (if f n then Some n else None) ≡ None → P) [
      | Some m ↦ λ _ e. absurd (cc e)
      | None ↦ λ before e. ⊎_elim
          (λ (below : j < n). none_passes f n j before below passes P)
          (λ (from : n ≤ j).
          let same : j ≡ n = omega (arith, from, within) in
          absurd (none-some n (sym e ∙ ap (λ b. if b then Some n else None) (sym (ap f same) ∙ passes))))
          (cases_lt j n)
    ] refl none

-- two sends of the same bytes are sends by one station
pub same_sends : (r : PlainRecording) (b : List ℕ) (j n : ℕ) → is_source r b j ≡ true → is_source r b n ≡ true
    → (t : ℕ) × (((stamp : ℕ) × (slice_get r.entries j ≡ Some (Sent t stamp b))) × ((stamp : ℕ) × (slice_get r.entries n ≡ Some (Sent t stamp b))))
same_sends r b j n one other =
    let x = source_entry r b j one in
    let y = source_entry r b n other in
    let same : y.0 ≡ x.0 = same_Some y.0 x.0 (sym y.1.0 ∙ x.1.0) in
    (x.0, (x.1.1, (y.1.1.0, y.1.1.1 ∙ ap (λ t. Some (Sent t y.1.1.0 b)) same)))

-- where something that depends on station and bytes alone is first at a send, what is sent is new
pub new_by : (r : PlainRecording) (n : ℕ) (f : ℕ → Bool) → first_below f n ≡ None
    → ((j t s u : ℕ) (b : List ℕ) → slice_get r.entries j ≡ Some (Sent t s b) → slice_get r.entries n ≡ Some (Sent t u b) → f j ≡ true) → IsNewSend r n
unfolding first_source
new_by r n f none same b source =
    elim (first_below (is_source r b) n) as (λ o. first_below (is_source r b) n ≡ o → o ≡ None) [
      | None ↦ λ _. refl
      | Some j ↦ λ found.
          let before = passes (is_source r b) n j found in
          let sends = same_sends r b j n before.1 source in
          none_passes f n j none before.0 (same j sends.0 sends.1.0.0 sends.1.1.0 b sends.1.0.1 sends.1.1.1) (Some j ≡ None)
    ] refl

pub key_of_send : (r : PlainRecording) (j t stamp : ℕ) (b : List ℕ) → slice_get r.entries j ≡ Some (Sent t stamp b) → key_at r j ≡ event_key r (Send t b)
unfolding key_at
key_of_send r j t stamp b at = ap (option_and_then (λ e. event_key r (event_of e))) at

-- what is sent first under its key is new
pub new_key : (r : PlainRecording) (n : ℕ) → IsNewKey r n → IsNewSend r n
unfolding first_under
new_key r n new =
    new_by r n (has_key r new.0) new.1.1
    (λ j t s u b at here. its_key r j new.0 (new.1.0 ∙ key_of_send r n t u b here ∙ sym (key_of_send r j t s b at)))

-- ---- one entry more

pub no_first_sends : (r : PlainRecording) (s : FirstSends) → length s.kept.slots.slots ≡ 0 → length s.kept.order.items ≡ 0 → s.hashed ≡ 0 → AreFirstSends r 0 s
unfolding first_source first_below
no_first_sends r s none empty unhashed = record {
  all = λ b e first. absurd (none-some e first);
  each = λ i e at. absurd (omega (arith, empty, slice_get_within s.kept.order.items i e at));
  within = omega (arith, unhashed);
  reached = λ b i e before at source. absurd (omega (arith, unhashed, before));
  only = λ e stands. stands_none s.kept.slots.slots e none stands ((i : ℕ) × (slice_get s.kept.order.items i ≡ Some e));
}

-- an entry before which the first send of all bytes is the same as before it
still : (r : PlainRecording) (n : ℕ) (s : FirstSends) → ((b : List ℕ) → first_source r b (n + 1) ≡ first_source r b n) → AreFirstSends r n s → AreFirstSends r (n + 1) s
still r n s same tied = record {
  all = λ b e first. tied.all b e (sym (same b) ∙ first);
  each = λ i e at. record { source = (tied.each i e at).source; first = λ b source. same b ∙ (tied.each i e at).first b source };
  within = tied.within;
  reached = tied.reached;
  only = tied.only;
}

-- an entry that is no source
pub sends_still : (r : PlainRecording) (n : ℕ) (s : FirstSends) → ((b : List ℕ) → is_source r b n ≡ false) → AreFirstSends r n s → AreFirstSends r (n + 1) s
unfolding first_source
sends_still r n s none tied = still r n s (λ b. none_here (is_source r b) n (none b)) tied

-- whether a source is the first of these bytes or not: for other bytes it is none
other_still : (r : PlainRecording) (n s stamp : ℕ) (c : List ℕ) → slice_get r.entries n ≡ Some (Sent s stamp c)
    → (b : List ℕ) → is_source r b n ≡ false ⊎ (b ≡ c)
other_still r n s stamp c at b =
    elim (is_source r b n) as (λ q. is_source r b n ≡ q → is_source r b n ≡ false ⊎ (b ≡ c)) [
      | false ↦ λ off. inl off
      | true ↦ λ is. inr (source_own r n s stamp c at b is)
    ] refl

-- a source of what another one sent before
pub sends_later : (r : PlainRecording) (n s stamp m : ℕ) (c : List ℕ) (sends : FirstSends) → slice_get r.entries n ≡ Some (Sent s stamp c)
    → first_source r c n ≡ Some m → AreFirstSends r n sends → AreFirstSends r (n + 1) sends
unfolding first_source
sends_later r n s stamp m c sends at first tied =
    still r n sends
    (λ b. ⊎_elim (λ off. none_here (is_source r b) n off)
    (λ (same : b ≡ c). later_here (is_source r b) n m (ap (λ x. first_below (is_source r x) n) same ∙ first))
    (other_still r n s stamp c at b))
    tied

-- the first source of what it sends, which is put behind the others
pub sends_more : (r : PlainRecording) (n s stamp : ℕ) (c : List ℕ) (old new : FirstSends) → slice_get r.entries n ≡ Some (Sent s stamp c)
    → source_at r n ≡ true → first_source r c n ≡ None → new.kept.slots ≡ old.kept.slots → new.hashed ≡ old.hashed
    → new.kept.order.items ≡ old.kept.order.items ++ n ∷ [] → AreFirstSends r n old → AreFirstSends r (n + 1) new
unfolding first_source
sends_more r n s stamp c old new at source none slots hashed pushed tied = record {
  all = λ b e first. on_first b e first (first_below (is_source r b) n) refl;
  each = λ i e here. ⊎_elim
      (λ (last : i ≡ length old.kept.order.items). subst (IsFirstSend r (n + 1)) (at_last i e last here) newest)
      (λ apart. stays e (tied.each i e (was_at i e apart here)))
      (cases_eq i (length old.kept.order.items));
  within = omega (arith, hashed, tied.within, ap length pushed, length-append old.kept.order.items (n ∷ []));
  reached = λ b i e before here is.
      subst (λ xs. IsReached xs (datagram_hash b) e) (sym (ap (λ x. x.slots) slots))
      (tied.reached b i e (omega (arith, hashed, before))
      (was_at i e (λ last. absurd (omega (arith, last, before, hashed, tied.within))) here) is);
  only = λ e stands.
      let old_at = tied.only e (subst (λ xs. HasSlot xs e) (ap (λ x. x.slots) slots) stands) in
      (old_at.0, kept_at old_at.0 e old_at.1);
}
  where
    placed : (i e : ℕ) → slice_get new.kept.order.items i ≡ Some e → slice_get (old.kept.order.items ++ n ∷ []) i ≡ Some e
    placed i e here = ap (λ xs. slice_get xs i) (sym pushed) ∙ here

    was_at : (i e : ℕ) → i ≢ length old.kept.order.items → slice_get new.kept.order.items i ≡ Some e → slice_get old.kept.order.items i ≡ Some e
    was_at i e apart here = sym (get-pushed_other old.kept.order.items n i apart) ∙ placed i e here

    kept_at : (i e : ℕ) → slice_get old.kept.order.items i ≡ Some e → slice_get new.kept.order.items i ≡ Some e
    kept_at i e here =
        ap (λ xs. slice_get xs i) pushed
        ∙ get-pushed_other old.kept.order.items n i (λ last. absurd (omega (arith, last, slice_get_within old.kept.order.items i e here))) ∙ here

    at_last : (i e : ℕ) → i ≡ length old.kept.order.items → slice_get new.kept.order.items i ≡ Some e → n ≡ e
    at_last i e last here =
        same_Some n e (sym (ap (slice_get (old.kept.order.items ++ n ∷ [])) last ∙ get-pushed_here old.kept.order.items n) ∙ placed i e here)

    newest : IsFirstSend r (n + 1) n
    newest = record {
      source = source;
      first = λ b is. new_here (is_source r b) n (ap (λ x. first_below (is_source r x) n) (source_own r n s stamp c at b is) ∙ none) is;
    }

    stays : (e : ℕ) → IsFirstSend r n e → IsFirstSend r (n + 1) e
    stays e was = record {
      source = was.source;
      first = λ b is. later_here (is_source r b) n e (was.first b is) ∙ was.first b is;
    }

    on_first : (b : List ℕ) (e : ℕ) → first_below (is_source r b) (n + 1) ≡ Some e → (o : Option ℕ) → first_below (is_source r b) n ≡ o
        → (i : ℕ) × (slice_get new.kept.order.items i ≡ Some e)
    on_first b e first (Some m) was =
        let old_at = tied.all b e (sym (later_here (is_source r b) n m was) ∙ first) in
        (old_at.0, kept_at old_at.0 e old_at.1)
    on_first b e first None was = ⊎_elim
        (λ off. absurd (none-some e (sym was ∙ sym (none_here (is_source r b) n off) ∙ first)))
        (λ (same : b ≡ c).
        let is : is_source r b n ≡ true = subst (λ x. is_source r x n ≡ true) (sym same) (source_is r n s stamp c at source) in
        let here : n ≡ e = same_Some n e (sym (new_here (is_source r b) n was is) ∙ first) in
        (length old.kept.order.items, ap (λ xs. slice_get xs (length old.kept.order.items)) pushed ∙ get-pushed_here old.kept.order.items n ∙ ap Some here))
        (other_still r n s stamp c at b)

-- ---- one more is kept under its hash

pub hashed_more : (r : PlainRecording) (n e : ℕ) (old new : FirstSends) → slice_get old.kept.order.items old.hashed ≡ Some e
    → ((b : List ℕ) → is_source r b e ≡ true → IsPut (datagram_hash b) e old.kept.slots.slots new.kept.slots.slots)
    → new.kept.order ≡ old.kept.order → new.hashed ≡ old.hashed + 1 → AreFirstSends r n old → AreFirstSends r n new
hashed_more r n e old new at put order one tied = record {
  all = λ b x first. let was = tied.all b x first in (was.0, now_at was.0 x was.1);
  each = λ i x here. tied.each i x (was_at i x here);
  within = omega (arith, one, ap (λ o. length o.items) order, slice_get_within old.kept.order.items old.hashed e at);
  reached = λ b i x before here is. ⊎_elim
      (λ (below : i < old.hashed). its.1.kept (datagram_hash b) x (tied.reached b i x below (was_at i x here) is))
      (λ (from : old.hashed ≤ i).
      let same : i ≡ old.hashed = omega (arith, from, before, one) in
      let this : e ≡ x = same_Some e x (sym at ∙ ap (slice_get old.kept.order.items) (sym same) ∙ was_at i x here) in
      subst (IsReached new.kept.slots.slots (datagram_hash b)) this
      (put b (subst (λ y. is_source r b y ≡ true) (sym this) is)).reached)
      (cases_lt i old.hashed);
  only = λ x stands. ⊎_elim
      (λ (stood : HasSlot old.kept.slots.slots x). let was = tied.only x stood in (was.0, now_at was.0 x was.1))
      (λ (same : x ≡ e). (old.hashed, now_at old.hashed x (at ∙ ap Some (sym same))))
      (its.1.only x stands);
}
  where
    was_at : (i x : ℕ) → slice_get new.kept.order.items i ≡ Some x → slice_get old.kept.order.items i ≡ Some x
    was_at i x here = ap (λ o. slice_get o.items i) (sym order) ∙ here

    now_at : (i x : ℕ) → slice_get old.kept.order.items i ≡ Some x → slice_get new.kept.order.items i ≡ Some x
    now_at i x here = ap (λ o. slice_get o.items i) order ∙ here

    its : (h : ℕ) × IsPut h e old.kept.slots.slots new.kept.slots.slots
    its =
        let source = (tied.each old.hashed e at).source in
        let sent = sent_at r e source in
        (datagram_hash sent.1.1.0, put sent.1.1.0 (source_is r e sent.0 sent.1.0 sent.1.1.0 sent.1.1.1 source))

-- the first source of what it sends, which is put behind the others and under its hash, where all are
pub sends_hashed : (r : PlainRecording) (n s stamp : ℕ) (c : List ℕ) (old new : FirstSends) → slice_get r.entries n ≡ Some (Sent s stamp c)
    → source_at r n ≡ true → first_source r c n ≡ None → old.hashed ≡ length old.kept.order.items → new.hashed ≡ old.hashed + 1
    → IsAppended (datagram_hash c) n old.kept new.kept → AreFirstSends r n old → AreFirstSends r (n + 1) new
sends_hashed r n s stamp c old new at source none all one behind tied =
    let between : FirstSends = record { kept = record { slots = old.kept.slots; order = new.kept.order }; hashed = old.hashed } in
    hashed_more r (n + 1) n between new
    (ap (slice_get new.kept.order.items) all ∙ ap (λ xs. slice_get xs (length old.kept.order.items)) behind.order ∙ get-pushed_here old.kept.order.items n)
    (λ b is. subst (λ x. IsPut (datagram_hash x) n old.kept.slots.slots new.kept.slots.slots) (sym (source_own r n s stamp c at b is)) behind.put)
    refl one
    (sends_more r n s stamp c old between at source none refl refl behind.order tied)

-- once all are, each is found
pub all_hashed : (r : PlainRecording) (n : ℕ) (s : FirstSends) → length s.kept.order.items ≤ s.hashed → AreFirstSends r n s → AreSenders r n s.kept
unfolding first_source
all_hashed r n s all tied = record {
  kept = record {
    first = record {
      keyed = λ e stands.
          let at = tied.only e stands in
          let source = (tied.each at.0 e at.1).source in
          let sent = sent_at r e source in
          (sent.1.1.0, source_is r e sent.0 sent.1.0 sent.1.1.0 sent.1.1.1 source);
      only = λ b e stands is. let at = tied.only e stands in (tied.each at.0 e at.1).first b is;
      all = λ b e first.
          let at = tied.all b e first in
          tied.reached b at.0 e (omega (arith, all, slice_get_within s.kept.order.items at.0 e at.1)) at.1 (passes (is_source r b) n e first).1;
    };
    order = λ i e at.
        let source = (tied.each i e at).source in
        let sent = sent_at r e source in (
          datagram_hash sent.1.1.0,
          tied.reached sent.1.1.0 i e (omega (arith, all, slice_get_within s.kept.order.items i e at)) at
              (source_is r e sent.0 sent.1.0 sent.1.1.0 sent.1.1.1 source),
        );
  };
  sources = λ e stands. let at = tied.only e stands in (tied.each at.0 e at.1).source;
}

-- what stands in order is the first source of what it sends
pub order_source : (r : PlainRecording) (n : ℕ) (s : FirstSends) (b : List ℕ) (i : ℕ) (o : Option ℕ) → AreFirstSends r n s
    → IfSome o (λ e. (slice_get s.kept.order.items i ≡ Some e) × (sends_at r b e ≡ true)) → IfSome o (λ e. first_source r b n ≡ Some e)
order_source r n s b i None tied here = tt
order_source r n s b i (Some e) tied here =
    let kept = tied.each i e here.0 in
    kept.first b (sym (sends_source r b e kept.source) ∙ here.1)

-- an entry of the order stands before the entry
pub order_before : (r : PlainRecording) (n : ℕ) (s : FirstSends) (i e : ℕ) → AreFirstSends r n s → slice_get s.kept.order.items i ≡ Some e → e < n
order_before r n s i e tied at =
    let kept = tied.each i e at in
    let sent = sent_at r e kept.source in
    subst (λ o. IfSome o (λ x. x < n)) (kept.first sent.1.1.0 (source_is r e sent.0 sent.1.0 sent.1.1.0 sent.1.1.1 kept.source)) (source_below r sent.1.1.0 n)
