-- Each entry that has an own cause contradicts something, and each block comes to something.
use Rattle.std.proofs.Common.{◌≡◌, ℕ, List, [], ◌∷◌, Bool, Option, Some, None, true, false, refl, sym, ap, ◌∙◌}
use Rattle.std.specs.Prelude.{slice_get, ◌&&◌, not, option_map, option_and_then}
use Rattle.std.specs.Option.{option_or}
use Rattle.std.proofs.lemmas.Option.{same_Some}
use Rattle.dis_records.specs.declared.entity_state.EntityState.{EntityState}
use Rattle.siman_pdus.specs.declared.pdu.Pdu.{Pdu}
use Rattle.exercise_model.specs.declared.cause.Cause.{Cause}
use Rattle.exercise_model.specs.declared.cause.Cause.TheVariants as causes
use Rattle.exercise_model.specs.Entry.{Entry, Sent, Received, Told}
use Rattle.exercise_model.specs.Recording.{PlainRecording}
use Rattle.exercise_model.specs.History.{Event, Send, Get, Tell, History, event_of, station_at}
use Rattle.exercise_model.specs.Station.{StationData}
use Rattle.exercise_model.specs.Setting.{SettingData, is_recorded, may_be_heard}
use Rattle.exercise_model.specs.Meaning.{meaning}
use Rattle.exercise_model.specs.State.{state_after}
use Rattle.exercise_model.specs.Cause.{first_cause, same_state, tell_rows, send_cause, get_cause, cause_of, was_sent}
use Rattle.exercise_model.specs.Place.{log_before}
use Rattle.exercise_findings.specs.Tables.{event_own_cause, own_cause}
use Rattle.exercise_audit.specs.declared.blocks.Block.{Block}
use Rattle.exercise_audit.specs.Audit.{IsBlocked}
use Rattle.exercise_conflict.specs.declared.clash.Clash.{Clash}
use Rattle.exercise_conflict.specs.declared.clash.Clash.TheVariants as clashes
use Rattle.exercise_conflict.specs.declared.waits.Wait.{Wait}
use Rattle.exercise_conflict.specs.declared.way.Way.{Way}
use Rattle.exercise_conflict.specs.declared.way.Way.TheVariants as ways
use Rattle.exercise_conflict.specs.Clash.{unasked_clash, receipt_clash, clash_by, clash_of_entry, clash_of}
use Rattle.exercise_conflict.specs.StepClash.{is_of_event}
use Rattle.exercise_conflict.specs.Waits.{wait_of}
use Rattle.exercise_conflict.specs.Ways.{clashes_by, way_of}
use Rattle.exercise_conflict.proofs.Rows.{chain}
use Rattle.exercise_conflict.proofs.Stands.{accused}
use Rattle.exercise_conflict.proofs.Contradicting.{sent_for}
use Rattle.exercise_conflict.proofs.Opposing.{sent_clash, clashes_by_order, clashes_by_answer, clashes_by_opposite, clashes_by_change, clashes_by_state, clashes_by_send}
use Rattle.exercise_conflict.proofs.Waiting.{blocks_own}

-- ---- an own cause is one of an event

named : (given cause : Cause) → Some given ≡ Some cause → is_of_event given ≡ true → is_of_event cause ≡ true
named given cause is event = ap is_of_event (sym (same_Some given cause is)) ∙ event

chain_event : (a b c d e f : Bool) (cause : Cause) → chain a b c d e f ≡ Some cause → is_of_event cause ≡ true
chain_event true b c d e f cause is = named causes.WrongSender cause is refl
chain_event false true c d e f cause is = named causes.ReusedIdentifier cause is refl
chain_event false false true d e f cause is = named causes.NoRequest cause is refl
chain_event false false false true e f cause is = named causes.WrongAnswer cause is refl
chain_event false false false false true f cause is = named causes.ChangedAnswer cause is refl
chain_event false false false false false true cause is = named causes.Impossible cause is refl
chain_event false false false false false false cause is = absurd (cc)

sent_event : (x : ℕ) (o : StationData) (log : History) (p : Pdu) (cause : Cause) → send_cause x o log p ≡ Some cause → is_of_event cause ≡ true
unfolding send_cause
sent_event x o log p cause is = chain_event _ _ _ _ _ _ cause is

got_event : (w : SettingData) (h : History) (b : List ℕ) (p : Pdu) (cause : Cause) → get_cause w h b p ≡ Some cause → is_of_event cause ≡ true
unfolding get_cause
got_event w h b p cause is = rows (may_be_heard w p) (is_recorded w p && not (was_sent b h)) is
  where
    rows : (heard unsent : Bool) → first_cause ((not heard, causes.Stranger) ∷ (unsent, causes.NeverSent) ∷ []) ≡ Some cause → is_of_event cause ≡ true
    rows false unsent is = named causes.Stranger cause is refl
    rows true true is = named causes.NeverSent cause is refl
    rows true false is = absurd (cc)

told_event : (y z : EntityState) (cause : Cause) → first_cause (tell_rows y z) ≡ Some cause → is_of_event cause ≡ true
told_event y z cause is = row (same_state y z) is
  where
    row : (b : Bool) → first_cause ((not b, causes.WrongState) ∷ []) ≡ Some cause → is_of_event cause ≡ true
    row true is = absurd (cc)
    row false is = named causes.WrongState cause is refl

pub own_of_event : (r : PlainRecording) (j : ℕ) (cause : Cause) → own_cause r j ≡ Some cause → is_of_event cause ≡ true
unfolding cause_of
own_of_event r j cause own = let at = accused r j cause own in of_event (event_of at.entry) at.is
  where
    of_event : (v : Event) → event_own_cause r j v ≡ Some cause → is_of_event cause ≡ true
    of_event (Send s b) is =
        elim (meaning r.setting.exercise b) as (λ o. option_and_then (send_cause r.setting.exercise (station_at r s) (log_before r s j)) o ≡ Some cause → is_of_event cause ≡ true) [
          | None ↦ λ e. absurd (cc)
          | Some p ↦ λ e. sent_event r.setting.exercise (station_at r s) (log_before r s j) p cause e
        ] is
    of_event (Get s b) is =
        elim (meaning r.setting.exercise b) as (λ o. option_and_then (get_cause r.setting [] b) o ≡ Some cause → is_of_event cause ≡ true) [
          | None ↦ λ e. absurd (cc)
          | Some p ↦ λ e. got_event r.setting [] b p cause e
        ] is
    of_event (Tell s e y) is = told_event y (state_after r.setting.exercise (station_at r s) (log_before r s j) e) cause is

-- ---- what it contradicts

abbrev Contradicting : PlainRecording → ℕ → Type 0
Contradicting r j = (clash : Clash) × (clash_of r j ≡ Some clash)

-- a stranger is received
stranger_there : (r : PlainRecording) (j : ℕ) → own_cause r j ≡ Some causes.Stranger → Contradicting r j
unfolding clash_of cause_of send_cause
stranger_there r j own = let at = accused r j causes.Stranger own in of_entry at.entry at.at at.is
  where
    of_pdu : (s stamp : ℕ) (b : List ℕ) → slice_get r.entries j ≡ Some (Received s stamp b) → (o : Option Pdu) → meaning r.setting.exercise b ≡ o
        → option_and_then (get_cause r.setting [] b) o ≡ Some causes.Stranger → Contradicting r j
    of_pdu s stamp b at None meant e = absurd (cc)
    of_pdu s stamp b at (Some p) meant e = (
      clashes.Stranger p.origin,
      ap (option_and_then (clash_of_entry r j)) at ∙ ap (option_and_then (clash_by r j (Received s stamp b))) own
          ∙ ap (option_and_then (receipt_clash r j b causes.Stranger)) meant,
    )

    no_row : (a b c d e f : Bool) → chain a b c d e f ≡ Some causes.Stranger → ⊥
    no_row true b c d e f is = absurd (cc)
    no_row false true c d e f is = absurd (cc)
    no_row false false true d e f is = absurd (cc)
    no_row false false false true e f is = absurd (cc)
    no_row false false false false true f is = absurd (cc)
    no_row false false false false false true is = absurd (cc)
    no_row false false false false false false is = absurd (cc)

    no_sent : (s : ℕ) (p : Pdu) → send_cause r.setting.exercise (station_at r s) (log_before r s j) p ≡ Some causes.Stranger → ⊥
    no_sent s p is = no_row _ _ _ _ _ _ is

    no_told : (b : Bool) → first_cause ((not b, causes.WrongState) ∷ []) ≡ Some causes.Stranger → ⊥
    no_told true is = absurd (cc)
    no_told false is = absurd (cc)

    of_entry : (e : Entry) → slice_get r.entries j ≡ Some e → event_own_cause r j (event_of e) ≡ Some causes.Stranger → Contradicting r j
    of_entry (Sent s stamp b) at e =
        elim (meaning r.setting.exercise b) as (λ o. option_and_then (send_cause r.setting.exercise (station_at r s) (log_before r s j)) o ≡ Some causes.Stranger → Contradicting r j) [
          | None ↦ λ e. absurd (cc)
          | Some p ↦ λ e. absurd (no_sent s p e)
        ] e
    of_entry (Received s stamp b) at e = of_pdu s stamp b at (meaning r.setting.exercise b) refl e
    of_entry (Told s n y) at e = absurd (no_told (same_state y (state_after r.setting.exercise (station_at r s) (log_before r s j) n)) e)

pub clash_there : (r : PlainRecording) (j : ℕ) (cause : Cause) → own_cause r j ≡ Some cause → Contradicting r j
clash_there r j causes.CountDiffers own = absurd (cc (own_of_event r j causes.CountDiffers own))
clash_there r j causes.NoSuchRecord own = absurd (cc (own_of_event r j causes.NoSuchRecord own))
clash_there r j causes.OutOfOrder own = absurd (cc (own_of_event r j causes.OutOfOrder own))
clash_there r j causes.BadLink own = absurd (cc (own_of_event r j causes.BadLink own))
clash_there r j causes.WrongSender own = let for = sent_for r j causes.WrongSender own refl in (clashes.WrongSender for.pdu.origin for.station, sent_clash r j causes.WrongSender for)
clash_there r j causes.ReusedIdentifier own = let c = clashes_by_order r j own in (clashes.ReusedIdentifier c.earlier c.field, c.told)
clash_there r j causes.NoRequest own = let for = sent_for r j causes.NoRequest own refl in (unasked_clash r for.station j for.pdu, sent_clash r j causes.NoRequest for)
clash_there r j causes.WrongAnswer own = let c = clashes_by_answer r j own in (clashes.WrongAnswer c.earlier c.why, c.told)
clash_there r j causes.ChangedAnswer own = let c = clashes_by_opposite r j own in (clashes.ChangedAnswer c.earlier, c.told)
clash_there r j causes.Impossible own = let c = clashes_by_change r j own in (clashes.Impossible c.earlier c.station c.entity c.state c.change, c.told)
clash_there r j causes.Stranger own = stranger_there r j own
clash_there r j causes.NeverSent own = let c = clashes_by_send r j own in (clashes.NeverSent c.from c.sent c.near c.differs, c.told)
clash_there r j causes.WrongState own = let c = clashes_by_state r j own in (clashes.WrongState c.station c.entity c.state c.change, c.told)

-- EACH BLOCK COMES TO SOMETHING
pub way_there : (r : PlainRecording) (blocks : List Block) (n : ℕ) (b : Block) → IsBlocked r blocks → slice_get blocks n ≡ Some b
    → (way : Way) × (way_of r blocks b ≡ Some way)
unfolding way_of
way_there r blocks n b blocked at =
    let clash = clash_there r b.entry b.cause (blocks_own r blocks n b blocked at) in
    elim (wait_of r blocks b) as (λ o. (way : Way) × (option_or (option_map ways.Waits o) (option_map (clashes_by b) (clash_of r b.entry)) ≡ Some way)) [
      | Some wait ↦ (ways.Waits wait, refl)
      | None ↦ (clashes_by b clash.0, ap (option_map (clashes_by b)) clash.1)
    ]
