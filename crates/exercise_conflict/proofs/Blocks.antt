-- The blocks of a list, each by its station, and that each has its own cause.
use Rattle.std.proofs.Common.{◌≡◌, ◌≢◌, ⊎_elim, ℕ, zero, suc, ◌<◌, ◌≤◌, List, [], ◌∷◌, ◌++◌, cond, Bool, Some, None, true, false, refl, sym, ap, ◌∙◌, subst, arith}
use Rattle.std.specs.Prelude.{nat_eq, slice_get, option_and_then, ◌&&◌, not}
use Rattle.std.specs.Option.{option_or}
use Rattle.std.proofs.lemmas.Bool.{cases_lt, eq-eqb, ne_eqb, eqb-true}
use Rattle.std.proofs.lemmas.Option.{same_Some}
use Rattle.siman_pdus.specs.declared.pdu.Pdu.{Pdu}
use Rattle.exercise_model.specs.declared.cause.Cause.{Cause}
use Rattle.exercise_model.specs.declared.cause.Cause.TheVariants.{Stranger, NeverSent}
use Rattle.exercise_model.specs.Entry.{Entry}
use Rattle.exercise_model.specs.Recording.{PlainRecording}
use Rattle.exercise_model.specs.History.{Event, Send, Get, Tell, History, event_of, station_of, log_at, log_of, station_at}
use Rattle.exercise_model.specs.Setting.{SettingData, is_recorded, may_be_heard}
use Rattle.exercise_model.specs.Meaning.{meaning}
use Rattle.exercise_model.specs.Place.{event_at, own_event, log_before}
use Rattle.exercise_model.specs.State.{state_after}
use Rattle.exercise_model.specs.Cause.{first_cause, tell_rows, send_cause, get_cause, was_sent, cause_of}
use Rattle.exercise_model.specs.Run.{IsStuck}
use Rattle.exercise_model.proofs.Offered.{same_beginnings, log_before-beginning}
use Rattle.exercise_findings.specs.Tables.{event_own_cause, own_cause}
use Rattle.exercise_audit.specs.declared.blocks.Block.{Block}
use Rattle.exercise_audit.specs.Audit.{IsBlock, IsDone, AreBlocks}
use Rattle.exercise_conflict.specs.Waits.{block_of}

-- what holds of each block of a list
abbrev pub Each : (Block → Type 0) → List Block → Type 0
Each P [] = Unit {0}
Each P (b ∷ blocks) = P b × Each P blocks

each_more : (P : Block → Type 0) (blocks : List Block) (b : Block) → Each P blocks → P b → Each P (blocks ++ b ∷ [])
each_more P [] b each is = (is, tt)
each_more P (x ∷ blocks) b each is = (each.0, each_more P blocks b each.1 is)

pub each_at : (P : Block → Type 0) (blocks : List Block) (n : ℕ) (b : Block) → Each P blocks → slice_get blocks n ≡ Some b → P b
each_at P [] n b each at = absurd (cc)
each_at P (x ∷ blocks) zero b each at = subst P (same_Some x b at) each.0
each_at P (x ∷ blocks) (suc n) b each at = each_at P blocks n b each.1 at

-- a block that is found is one of the list, and of the station
pub each_found : (P : Block → Type 0) (blocks : List Block) (t : ℕ) (b : Block) → Each P blocks → block_of blocks t ≡ Some b → P b × (b.station ≡ t)
unfolding block_of
each_found P [] t b each is = absurd (cc)
each_found P (x ∷ blocks) t b each is =
    elim (nat_eq x.station t) as (λ q. nat_eq x.station t ≡ q → cond q (Some x) (block_of blocks t) ≡ Some b → P b × (b.station ≡ t)) [
      | true ↦ λ own e. let same = same_Some x b e in (subst P same each.0, ap (λ (y : Block). y.station) (sym same) ∙ eqb-true x.station t own)
      | false ↦ λ _ e. each_found P blocks t b each.1 e
    ] refl is

-- what a block of a list says, of its own station
abbrev pub Says : PlainRecording → History → Block → Type 0
Says r h b = IsBlock r h b.station b

pub each_says : (r : PlainRecording) (h : History) (n : ℕ) (blocks : List Block) → AreBlocks r h n blocks → Each (Says r h) blocks
each_says r h zero blocks are = subst (Each (Says r h)) (sym are) tt
each_says r h (suc s) blocks are =
    ⊎_elim
    (λ (here : IsDone r h s × AreBlocks r h s blocks). each_says r h s blocks here.1)
    (λ (here : (others : List Block) × (b : Block) × (blocks ≡ others ++ b ∷ []) × AreBlocks r h s others × IsBlock r h s b).
    subst (Each (Says r h)) (sym here.2) (each_more (Says r h) here.0 here.1 (each_says r h s here.0 here.3)
    (subst (λ k. IsBlock r h k here.1) (sym here.4.station) here.4)))
    are

-- ---- the block of a station

block_of-append : (xs ys : List Block) (t : ℕ) → block_of (xs ++ ys) t ≡ option_or (block_of xs t) (block_of ys t)
unfolding block_of
block_of-append [] ys t = refl
block_of-append (x ∷ xs) ys t =
    elim (nat_eq x.station t) as (λ q. cond q (Some x) (block_of (xs ++ ys) t) ≡ option_or (cond q (Some x) (block_of xs t)) (block_of ys t)) [
      | true ↦ refl
      | false ↦ block_of-append xs ys t
    ]

block_of-one : (b : Block) (t : ℕ) → b.station ≡ t → block_of (b ∷ []) t ≡ Some b
unfolding block_of
block_of-one b t own = ap (λ q. cond q (Some b) None) (eq-eqb b.station t own)

block_of-other : (b : Block) (t : ℕ) → b.station ≢ t → block_of (b ∷ []) t ≡ None
unfolding block_of
block_of-other b t apart = ap (λ q. cond q (Some b) None) (ne_eqb b.station t apart)

block_of-none : (t : ℕ) → block_of [] t ≡ None
unfolding block_of
block_of-none t = refl

none_above : (r : PlainRecording) (h : History) (n : ℕ) (blocks : List Block) (t : ℕ) → AreBlocks r h n blocks → n ≤ t → block_of blocks t ≡ None
none_above r h zero blocks t are le = ap (λ xs. block_of xs t) are ∙ block_of-none t
none_above r h (suc s) blocks t are le =
    ⊎_elim
    (λ (here : IsDone r h s × AreBlocks r h s blocks). none_above r h s blocks t here.1 (omega (arith, le)))
    (λ (here : (others : List Block) × (b : Block) × (blocks ≡ others ++ b ∷ []) × AreBlocks r h s others × IsBlock r h s b).
    ap (λ xs. block_of xs t) here.2 ∙ block_of-append here.0 (here.1 ∷ []) t
    ∙ ap (λ o. option_or o (block_of (here.1 ∷ []) t)) (none_above r h s here.0 t here.3 (omega (arith, le)))
    ∙ block_of-other here.1 t (λ same. omega (arith, le, same, here.4.station)))
    are

-- a station that is not done has its block
pub block_there : (r : PlainRecording) (h : History) (n : ℕ) (blocks : List Block) (t : ℕ) → AreBlocks r h n blocks → t < n → (IsDone r h t → ⊥)
    → (b : Block) × (block_of blocks t ≡ Some b)
block_there r h zero blocks t are within left = absurd (omega (arith, within))
block_there r h (suc s) blocks t are within left =
    ⊎_elim
    (λ (here : IsDone r h s × AreBlocks r h s blocks).
    ⊎_elim (λ (less : t < s). block_there r h s blocks t here.1 less left)
    (λ (most : s ≤ t). let same : s ≡ t = omega (arith, within, most) in absurd (left (subst (IsDone r h) same here.0)))
    (cases_lt t s))
    (λ (here : (others : List Block) × (b : Block) × (blocks ≡ others ++ b ∷ []) × AreBlocks r h s others × IsBlock r h s b).
    let parts = ap (λ xs. block_of xs t) here.2 ∙ block_of-append here.0 (here.1 ∷ []) t in
    ⊎_elim (λ (less : t < s).
    let found = block_there r h s here.0 t here.3 less left in
    (found.0, parts ∙ ap (λ o. option_or o (block_of (here.1 ∷ []) t)) found.1))
    (λ (most : s ≤ t).
    let same : s ≡ t = omega (arith, within, most) in
    (here.1, parts ∙ ap (λ o. option_or o (block_of (here.1 ∷ []) t)) (none_above r h s here.0 t here.3 most) ∙ block_of-one here.1 t (here.4.station ∙ same)))
    (cases_lt t s))
    are

-- ---- where a block stands

-- the log of its station at the end is what stands before its entry
pub block_log : (r : PlainRecording) (h : History) (s : ℕ) (b : Block) → IsStuck r h → IsBlock r h s b → log_at s h ≡ log_before r s b.entry
block_log r h s b stuck block =
    same_beginnings (log_at s h) (log_before r s b.entry) (log_of r s) (stuck.covers.logs s) (log_before-beginning r s b.entry) (sym block.next.place)

-- the entry of an event of a station
pub record OwnEntry (r : PlainRecording) (s i : ℕ) (v : Event) : Type 0 where
  pub entry : Entry
  pub at : slice_get r.entries i ≡ Some entry
  pub is : event_of entry ≡ v
  pub station : station_of v ≡ s

pub own_entry : (r : PlainRecording) (s i : ℕ) (v : Event) → own_event r s i ≡ Some v → OwnEntry r s i v
unfolding own_event
own_entry r s i v own =
    elim (slice_get r.entries i) as (λ o. slice_get r.entries i ≡ o → option_and_then (λ e. event_at s (event_of e)) o ≡ Some v → OwnEntry r s i v) [
      | None ↦ λ _ e. absurd (cc)
      | Some e ↦ λ at. elim (nat_eq (station_of (event_of e)) s) as
          (λ b. nat_eq (station_of (event_of e)) s ≡ b → cond b (Some (event_of e)) None ≡ Some v → OwnEntry r s i v) [
            | false ↦ λ _ own. absurd (cc)
            | true ↦ λ here own.
                let same = same_Some (event_of e) v own in
                record { entry = e; at = at; is = same; station = ap station_of (sym same) ∙ eqb-true _ _ here }
          ] refl
    ] refl own

-- ---- its cause is its own

received_alone : (w : SettingData) (h : History) (b : List ℕ) (p : Pdu) (cause : Cause) → get_cause w h b p ≡ Some cause → get_cause w [] b p ≡ Some cause
unfolding get_cause was_sent
received_alone w h b p cause is = rows (may_be_heard w p) (is_recorded w p) (was_sent b h) is
  where
    rows : (heard known sent : Bool) → first_cause ((not heard, Stranger) ∷ (known && not sent, NeverSent) ∷ []) ≡ Some cause
        → first_cause ((not heard, Stranger) ∷ (known && not false, NeverSent) ∷ []) ≡ Some cause
    rows false known sent is = is
    rows true false sent is = is
    rows true true false is = is
    rows true true true is = absurd (cc)

pub event_cause_own : (r : PlainRecording) (h : History) (j : ℕ) (v : Event) (cause : Cause) → log_at (station_of v) h ≡ log_before r (station_of v) j
    → cause_of r.setting h v ≡ Some cause → event_own_cause r j v ≡ Some cause
unfolding cause_of
event_cause_own r h j (Send s b) cause logs is =
    ap (λ l. option_and_then (send_cause r.setting.exercise (station_at r s) l) (meaning r.setting.exercise b)) (sym logs) ∙ is
event_cause_own r h j (Get s b) cause logs is =
    elim (meaning r.setting.exercise b) as (λ o. option_and_then (get_cause r.setting h b) o ≡ Some cause → option_and_then (get_cause r.setting [] b) o ≡ Some cause) [
      | None ↦ λ e. e
      | Some p ↦ λ e. received_alone r.setting h b p cause e
    ] is
event_cause_own r h j (Tell s e y) cause logs is =
    ap (λ l. first_cause (tell_rows y (state_after r.setting.exercise (station_at r s) l e))) (sym logs) ∙ is

-- THE CAUSE OF A BLOCK IS THE OWN CAUSE OF ITS ENTRY
pub block_own : (r : PlainRecording) (h : History) (s : ℕ) (b : Block) → IsStuck r h → IsBlock r h s b → own_cause r b.entry ≡ Some b.cause
unfolding own_cause
block_own r h s b stuck block =
    let own = own_entry r s b.entry block.event block.next.own in
    let logs = block_log r h s b stuck block in
    ap (option_and_then (λ e. event_own_cause r b.entry (event_of e))) own.at
    ∙ ap (event_own_cause r b.entry) own.is
    ∙ event_cause_own r h b.entry block.event b.cause
    (subst (λ t. log_at t h ≡ log_before r t b.entry) (sym own.station) logs) block.cause
