-- Entries that happened in the order in which they are written.
use Rattle.std.proofs.Common.{◌≡◌, ⊎_elim, ℕ, zero, suc, ◌+◌, ◌<◌, ◌≤◌, List, ◌++◌, [], ◌∷◌, length, true, false, Bool, Option, Some, None, refl, sym, ap, ◌∙◌, subst, arith}
use Rattle.std.specs.Prelude.{take, slice_get, nat_eq, nat_lt, ◌||◌, option_and_then, if◌then◌else◌}
use Rattle.std.specs.Option.{option_map_or}
use Rattle.std.specs.List.{list_any}
use Rattle.std.proofs.Math.Numerals.{add-one}
use Rattle.std.proofs.lemmas.Bool.{cases_lt, ltb-true}
use Rattle.std.proofs.lemmas.List.{take_more, take_all}
use Rattle.std.proofs.lemmas.Option.{same_Some, slice_get_within, get_or_from_slice_get}
use Rattle.siman_pdus.specs.declared.pdu.Pdu.{Pdu}
use Rattle.exercise_model.specs.declared.cause.Cause.TheVariants.{NeverSent}
use Rattle.exercise_model.specs.Entry.{Entry, Sent, Received, Told}
use Rattle.exercise_model.specs.Recording.{PlainRecording, IsRecording}
use Rattle.exercise_model.specs.History.{Get, event_of, station_of, past, log_of}
use Rattle.exercise_model.specs.Meaning.{meaning}
use Rattle.exercise_model.specs.Cause.{get_cause, sends, was_sent, cause_of, IsAllowed}
use Rattle.exercise_model.specs.Place.{log_before, own_event}
use Rattle.exercise_model.specs.Run.{IsRun, Explains}
use Rattle.exercise_model.specs.Account.{sender_of}
use Rattle.exercise_model.proofs.Offered.{past-snoc, first_found, get_where_sent}
use Rattle.exercise_findings.specs.Source.{sends_here, first_send, source_of_pdu, source_of_entry, source_of}
use Rattle.exercise_findings.specs.Tables.{own_cause}
use Rattle.exercise_findings.proofs.Offered.{cause_here, entry_within}
use Rattle.exercise_check.specs.declared.certificate.Step.{Step}
use Rattle.exercise_check.specs.Sequence.{sequence_of}
use Rattle.exercise_check.specs.Goodness.{IsGood}
use Rattle.exercise_check.proofs.Offered.{unsent, received_else, good_explains}
use Rattle.exercise_audit.specs.declared.blocks.Block.{Block}
use Rattle.exercise_audit.specs.Audit.{IsBlocked, IsExplained}
use Rattle.exercise_audit.specs.Written.{written_below, IsRunAsWritten, is_sent_before}

-- ---- one entry more

pub more : (r : PlainRecording) (n : ℕ) (e : Entry) → slice_get r.entries n ≡ Some e → written_below r (n + 1) ≡ event_of e ∷ written_below r n
more r n e at =
    ap past (take_more r.entries n e (slice_get_within r.entries n e at) ∙ ap (λ x. take n r.entries ++ x ∷ []) (get_or_from_slice_get r.entries n e e at))
    ∙ past-snoc (take n r.entries) e

-- what an entry sends was sent once that one happened
sent_below : (r : PlainRecording) (b : List ℕ) (j : ℕ) (e : Entry) → slice_get r.entries j ≡ Some e → sends b (event_of e) ≡ true
    → (n : ℕ) → j < n → n ≤ length r.entries → was_sent b (written_below r n) ≡ true
unfolding was_sent
sent_below r b j e at its zero before within = absurd (omega (arith, before))
sent_below r b j e at its (suc n) before within =
    let last = entry_within r.entries n (omega (arith, within)) in
    let goes : written_below r (suc n) ≡ event_of last.0 ∷ written_below r n = ap (written_below r) (sym (add-one n)) ∙ more r n last.0 last.1 in
    ap (list_any (sends b)) goes
    ∙ ⊎_elim
    (λ (earlier : j < n). later (sends b (event_of last.0)) (sent_below r b j e at its n earlier (omega (arith, within))))
    (λ (here : n ≤ j).
    let same : j ≡ n = omega (arith, here, before) in
    let own : e ≡ last.0 = same_Some e last.0 (sym at ∙ ap (slice_get r.entries) same ∙ last.1) in
    ap (λ x. sends b (event_of x) || list_any (sends b) (written_below r n)) (sym own) ∙ ap (λ t. t || list_any (sends b) (written_below r n)) its)
    (cases_lt j n)
  where
    later : (t : Bool) → list_any (sends b) (written_below r n) ≡ true → (t || list_any (sends b) (written_below r n)) ≡ true
    later true sent = refl
    later false sent = sent

-- ---- one entry is allowed

-- what an entry's source sends has its bytes
source_sends : (r : PlainRecording) (i j s stamp : ℕ) (b : List ℕ) → slice_get r.entries i ≡ Some (Received s stamp b) → source_of r i ≡ Some j
    → (e : Entry) × ((slice_get r.entries j ≡ Some e) × (sends b (event_of e) ≡ true))
unfolding source_of first_send own_event
source_sends r i j s stamp b at source =
    of_meaning (meaning r.setting.exercise b) (sym (ap (option_and_then (source_of_entry r)) at) ∙ source)
  where
    of_entry : (t : ℕ) (o : Option Entry) → slice_get r.entries j ≡ o
        → option_map_or (sends b) (option_and_then (λ e. if nat_eq (station_of (event_of e)) t then Some (event_of e) else None) o) false ≡ true
        → (e : Entry) × ((slice_get r.entries j ≡ Some e) × (sends b (event_of e) ≡ true))
    of_entry t None here its = absurd (cc)
    of_entry t (Some e) here its = (
      e,
      (
        here,
        elim (nat_eq (station_of (event_of e)) t) as
            (λ q. option_map_or (sends b) (if q then Some (event_of e) else None) false ≡ true → sends b (event_of e) ≡ true) [
              | true ↦ λ x. x
              | false ↦ λ x. absurd (cc)
            ] its,
      ),
    )

    of_sender : (o : Option ℕ) → option_and_then (first_send r b) o ≡ Some j
        → (e : Entry) × ((slice_get r.entries j ≡ Some e) × (sends b (event_of e) ≡ true))
    of_sender None none = absurd (cc)
    of_sender (Some t) found = of_entry t (slice_get r.entries j) refl (first_found (sends_here r b t) (length r.entries) j found).passes

    of_meaning : (m : Option Pdu) → option_and_then (source_of_pdu r b) m ≡ Some j
        → (e : Entry) × ((slice_get r.entries j ≡ Some e) × (sends b (event_of e) ≡ true))
    of_meaning None none = absurd (cc)
    of_meaning (Some p) found = of_sender (sender_of r p) found

-- AN ENTRY THAT ITS STATION'S LOG ALLOWS is allowed after those that are written before it
own_allowed : (r : PlainRecording) (n : ℕ) (e : Entry) → slice_get r.entries n ≡ Some e → own_cause r n ≡ None
    → IsAllowed r.setting (written_below r n) (event_of e)
unfolding cause_of log_before
own_allowed r n (Sent s stamp b) at own = sym (cause_here r n (Sent s stamp b) at) ∙ own
own_allowed r n (Received s stamp b) at own =
    let alone : cause_of r.setting [] (Get s b) ≡ None = sym (cause_here r n (Received s stamp b) at) ∙ own in
    received_else r.setting (written_below r n) b s (λ never. absurd (cc (sym alone ∙ never))) ∙ alone
own_allowed r n (Told s m y) at own = sym (cause_here r n (Told s m y) at) ∙ own

-- what an entry received is allowed where it was sent by one that is written before
sent_allowed : (r : PlainRecording) (n j : ℕ) (e : Entry) → slice_get r.entries n ≡ Some e → own_cause r n ≡ Some NeverSent → source_of r n ≡ Some j → j < n
    → IsAllowed r.setting (written_below r n) (event_of e)
unfolding cause_of source_of
sent_allowed r n j (Sent s stamp b) at own source before = absurd (cc (sym (ap (option_and_then (source_of_entry r)) at) ∙ source))
sent_allowed r n j (Received s stamp b) at own source before =
    let u = unsent r.setting b s (sym (cause_here r n (Received s stamp b) at) ∙ own) in
    let from = source_sends r n j s stamp b at source in
    let sent = sent_below r b j from.0 from.1.0 from.1.1 n before (omega (arith, slice_get_within r.entries n (Received s stamp b) at)) in
    ap (option_and_then (get_cause r.setting (written_below r n) b)) u.means ∙ get_where_sent r.setting (written_below r n) b u.pdu u.known sent
sent_allowed r n j (Told s m y) at own source before = absurd (cc (sym (ap (option_and_then (source_of_entry r)) at) ∙ source))

-- ---- a run goes on

goes_on : (r : PlainRecording) (n : ℕ) (e : Entry) → slice_get r.entries n ≡ Some e → IsRunAsWritten r n → IsAllowed r.setting (written_below r n) (event_of e)
    → IsRunAsWritten r (n + 1)
goes_on r n e at run allowed = subst (IsRun r.setting) (sym (more r n e at)) (run, allowed)

pub alone_follows : (r : PlainRecording) (n : ℕ) → n < length r.entries → IsRunAsWritten r n → own_cause r n ≡ None → IsRunAsWritten r (n + 1)
alone_follows r n within run own =
    let e = entry_within r.entries n within in
    goes_on r n e.0 e.1 run (own_allowed r n e.0 e.1 own)

pub sent_follows : (r : PlainRecording) (n : ℕ) → n < length r.entries → IsRunAsWritten r n → own_cause r n ≡ Some NeverSent → is_sent_before r n ≡ true
    → IsRunAsWritten r (n + 1)
sent_follows r n within run own = from (source_of r n) refl
  where
    from : (o : Option ℕ) → source_of r n ≡ o → option_map_or (λ j. nat_lt j n) o false ≡ true → IsRunAsWritten r (n + 1)
    from None is before = absurd (cc)
    from (Some j) is before =
        let e = entry_within r.entries n within in
        goes_on r n e.0 e.1 run (sent_allowed r n j e.0 e.1 own is (ltb-true j n before))

pub none_written : (r : PlainRecording) → IsRunAsWritten r 0
unfolding past
none_written r = tt

-- ALL ENTRIES AS THEY ARE WRITTEN explain the recording, where they are a run
pub written_explains : (r : PlainRecording) → IsRunAsWritten r (length r.entries) → Explains r (past r.entries)
unfolding log_of
written_explains r run = record {
  run = subst (λ es. IsRun r.setting (past es)) (take_all (length r.entries) r.entries (omega arith)) run;
  logs = λ s. refl;
}

pub written_explained : (r : PlainRecording) → IsRunAsWritten r (length r.entries) → IsExplained r true
written_explained r run = (past r.entries, written_explains r run)

-- ---- what a search says

pub good_explained : (r : PlainRecording) → IsRecording r → (steps : List Step) → IsGood r steps → IsExplained r true
good_explained r limits steps good = (sequence_of r steps, good_explains r limits steps good)

pub blocked_unexplained : (r : PlainRecording) (blocks : List Block) → IsBlocked r blocks → IsExplained r false
blocked_unexplained r blocks blocked = blocked.unexplained
