-- What a station's log says of its next entry is what the order so far says.
use Rattle.std.proofs.Common.{◌≡◌, ◌≢◌, ℕ, ◌<◌, List, [], ◌∷◌, length, cond, Option, Some, None, Bool, true, false, refl, sym, ap, ◌∙◌, subst}
use Rattle.std.specs.Prelude.{⊤, option_and_then, slice_get, IfSome, not, ◌&&◌}
use Rattle.std.specs.List.{list_any}
use Rattle.std.proofs.lemmas.Option.{same_Some}
use Rattle.siman_pdus.specs.declared.pdu.Pdu.{Pdu}
use Rattle.exercise_model.specs.Entry.{Entry, Sent, Received, Told}
use Rattle.exercise_model.specs.Recording.{PlainRecording}
use Rattle.exercise_model.specs.Setting.{SettingData, is_recorded, may_be_heard}
use Rattle.exercise_model.specs.History.{Send, Get, Tell, History, event_of, station_at}
use Rattle.exercise_model.specs.Meaning.{meaning}
use Rattle.exercise_model.specs.Place.{log_before}
use Rattle.exercise_model.specs.Station.{StationData}
use Rattle.exercise_model.specs.State.{state_after}
use Rattle.exercise_model.specs.Cause.{send_cause, send_rows, get_cause, sends, was_sent, tell_rows, first_cause, cause_of}
use Rattle.exercise_model.specs.Account.{pair_of_sent, pair_of_entry, pair_of}
use Rattle.exercise_model.specs.declared.cause.Cause.{Cause}
use Rattle.exercise_model.specs.declared.cause.Cause.TheVariants.{Stranger, NeverSent}
use Rattle.dis_records.specs.declared.entity_state.EntityState.{EntityState}
use Rattle.exercise_check.specs.declared.certificate.Step.{Step}
use Rattle.exercise_check.specs.declared.judgement.Judgement.{Judgement}
use Rattle.exercise_check.specs.declared.judgement.Judgement.TheVariants.{Allowed, Forbidden}
use Rattle.exercise_check.specs.Sequence.{sequence_of, first_sender, sender_link, link_of}
use Rattle.exercise_check.specs.Goodness.{IsReady}
use Rattle.exercise_check.specs.Course.{IsCourse, Judges}
use Rattle.exercise_findings.specs.Source.{source_of}
use Rattle.exercise_findings.specs.Tables.{event_own_cause, own_cause}
use Rattle.exercise_findings.proofs.Offered.{below, cause_here, pair_earlier, pair_here}
use Rattle.exercise_check.specs.Judging.{judged, is_never_sent, is_unsent, if_taken, source_judgement}
use Rattle.exercise_model.proofs.Offered.{get_where_sent}
use Rattle.exercise_check.proofs.Courses.{received_unsent, sender_tells}
use Rattle.exercise_check.proofs.FirstSenders.{source_first}
use Rattle.exercise_check.proofs.Sequences.{sender_within}

-- ---- a cause and a link make a judgement

judged_is : (cause : Option Cause) (link : Option ℕ) (entries : ℕ) → IfSome link (λ e. e < entries) → Judges cause link entries (judged cause link)
judged_is (Some cause) link entries within = refl
judged_is None link entries within = (refl, refl, within)

-- what is found of an entry makes this judgement
pub own_judged : (r : PlainRecording) (n : ℕ) (e : Entry) → n < length r.entries → slice_get r.entries n ≡ Some e
    → Judges (event_own_cause r n (event_of e)) (pair_of_entry r n e) (length r.entries) (judged (own_cause r n) (pair_of r n))
own_judged r n e within at =
    let earlier = subst (λ o. IfSome o (λ e. e < length r.entries)) (pair_here r n e at) (below (pair_of r n) n (length r.entries) within (pair_earlier r n)) in
    rw (cause_here r n e at, pair_here r n e at) (judged_is (event_own_cause r n (event_of e)) (pair_of_entry r n e) (length r.entries) earlier)

-- ---- what was sent, and what was told

sent_judged : (r : PlainRecording) (before : List Step) (j s : ℕ) (b : List ℕ) (x : Judgement)
    → IsReady r before j (Send s b)
    → Judges (event_own_cause r j (Send s b)) (option_and_then (pair_of_sent r s j) (meaning r.setting.exercise b)) (length r.entries) x
    → Judges (cause_of r.setting (sequence_of r before) (Send s b)) (link_of r before j (Send s b)) (length r.entries) x
unfolding cause_of link_of
sent_judged r before j s b x ready judged =
    subst (λ log. Judges (option_and_then (send_cause r.setting.exercise (station_at r s) log) (meaning r.setting.exercise b))
    (option_and_then (pair_of_sent r s j) (meaning r.setting.exercise b)) (length r.entries) x) (sym ready) judged

told_judged : (r : PlainRecording) (before : List Step) (j s e : ℕ) (y : EntityState) (x : Judgement)
    → IsReady r before j (Tell s e y) → Judges (event_own_cause r j (Tell s e y)) None (length r.entries) x
    → Judges (cause_of r.setting (sequence_of r before) (Tell s e y)) (link_of r before j (Tell s e y)) (length r.entries) x
unfolding cause_of link_of
told_judged r before j s e y x ready judged =
    subst (λ log. Judges (first_cause (tell_rows y (state_after r.setting.exercise (station_at r s) log e))) None (length r.entries) x) (sym ready) judged

-- ---- datagrams that were received

-- the causes on receiving, by who may be heard, who must have sent it, and whether it was sent
abbrev rows : Bool → Bool → Bool → Option Cause
rows heard must sent = first_cause ((not heard, Stranger) ∷ (must && not sent, NeverSent) ∷ [])

-- what was never sent, as if nothing had been, means a PDU of a recorded station
pub record Unsent (w : SettingData) (b : List ℕ) : Type 0 where
  pub pdu : Pdu
  pub means : meaning w.exercise b ≡ Some pdu
  pub known : is_recorded w pdu ≡ true

pub unsent : (w : SettingData) (b : List ℕ) (s : ℕ) → cause_of w [] (Get s b) ≡ Some NeverSent → Unsent w b
unfolding cause_of get_cause was_sent
unsent w b s =
    elim (meaning w.exercise b) as (λ o. meaning w.exercise b ≡ o → option_and_then (get_cause w [] b) o ≡ Some NeverSent → Unsent w b) [
      | None ↦ λ _ h. absurd (cc)
      | Some p ↦ λ means. elim (may_be_heard w p) as (λ heard. rows heard (is_recorded w p) false ≡ Some NeverSent → Unsent w b) [
        | false ↦ λ h. absurd (cc)
        | true ↦ elim (is_recorded w p) as (λ k. is_recorded w p ≡ k → rows true k false ≡ Some NeverSent → Unsent w b) [
          | false ↦ λ _ h. absurd (cc)
          | true ↦ λ known _. record { pdu = p; means = means; known = known }
        ] refl
      ]
    ] refl

-- else what was sent before changes nothing
pub received_else : (w : SettingData) (h : History) (b : List ℕ) (s : ℕ) → cause_of w [] (Get s b) ≢ Some NeverSent
    → cause_of w h (Get s b) ≡ cause_of w [] (Get s b)
unfolding cause_of get_cause was_sent
received_else w h b s =
    elim (meaning w.exercise b) as (λ o. option_and_then (get_cause w [] b) o ≢ Some NeverSent
    → option_and_then (get_cause w h b) o ≡ option_and_then (get_cause w [] b) o) [
      | None ↦ λ _. refl
      | Some p ↦ elim (may_be_heard w p) as (λ heard. rows heard (is_recorded w p) false ≢ Some NeverSent
          → rows heard (is_recorded w p) (list_any (sends b) h) ≡ rows heard (is_recorded w p) false) [
            | false ↦ λ _. refl
            | true ↦ elim (is_recorded w p) as (λ k. rows true k false ≢ Some NeverSent → rows true k (list_any (sends b) h) ≡ rows true k false) [
              | false ↦ λ _. refl
              | true ↦ λ n. absurd (n refl)
            ]
          ]
    ]

-- where nothing speaks against it, it is "other" or from outside, and is linked with no entry
received_unlinked : (r : PlainRecording) (steps : List Step) (place s : ℕ) (b : List ℕ) → cause_of r.setting [] (Get s b) ≡ None
    → link_of r steps place (Get s b) ≡ None
unfolding cause_of get_cause was_sent link_of
received_unlinked r steps place s b =
    let w : SettingData = r.setting in
    elim (meaning w.exercise b) as (λ o. option_and_then (get_cause w [] b) o ≡ None → option_and_then (sender_link r b steps) o ≡ None) [
      | None ↦ λ _. refl
      | Some p ↦ elim (may_be_heard w p) as (λ heard. rows heard (is_recorded w p) false ≡ None → sender_link r b steps p ≡ None) [
        | false ↦ λ h. absurd (cc)
        | true ↦ elim (is_recorded w p) as (λ k. rows true k false ≡ None → cond k (first_sender r.entries b steps) None ≡ None) [
          | false ↦ λ _. refl
          | true ↦ λ h. absurd (cc)
        ]
      ]
    ]

told_unsent : (cause : Option Cause) (link : Option ℕ) (entries : ℕ) (alone : Judgement) → is_unsent alone ≡ true → Judges cause link entries alone
    → cause ≡ Some NeverSent
told_unsent cause link entries (Allowed given) = λ h. absurd (cc)
told_unsent cause link entries (Forbidden given) =
    elim given as (λ g. is_never_sent g ≡ true → cause ≡ Some g → cause ≡ Some NeverSent) [
      | NeverSent ↦ λ _ e. e
      | _ ↦ λ h. absurd (cc)
    ]

not_unsent : (alone : Judgement) → is_unsent alone ≡ false → alone ≢ Forbidden NeverSent
not_unsent alone e same = absurd (cc (sym e ∙ ap is_unsent same))

-- where it is to have been sent, its source was taken exactly where it was
source_told : (r : PlainRecording) (steps : List Step) (place s stamp : ℕ) (b : List ℕ) (alone : Judgement)
    → IsCourse (record { recording = r; steps = steps }) → slice_get r.entries place ≡ Some (Received s stamp b)
    → is_unsent alone ≡ true → Judges (cause_of r.setting [] (Get s b)) None (length r.entries) alone
    → if_taken r steps (source_of r place) ≡ first_sender r.entries b steps
source_told r steps place s stamp b alone course at so judged =
    let u = unsent r.setting b s (told_unsent _ _ _ alone so judged) in
    source_first r steps place s stamp b u.pdu course.limits course.good at u.means

-- a datagram that was sent first by this entry
received_from : (r : PlainRecording) (steps : List Step) (place s : ℕ) (b : List ℕ) (alone : Judgement) (e : ℕ) → Some e ≡ first_sender r.entries b steps
    → is_unsent alone ≡ true → Judges (cause_of r.setting [] (Get s b)) None (length r.entries) alone
    → Judges (cause_of r.setting (sequence_of r steps) (Get s b)) (link_of r steps place (Get s b)) (length r.entries) (Allowed (Some e))
unfolding cause_of link_of
received_from r steps place s b alone e is so judged =
    let u = unsent r.setting b s (told_unsent _ _ _ alone so judged) in (
      ap (option_and_then (get_cause r.setting (sequence_of r steps) b)) u.means
          ∙ get_where_sent r.setting (sequence_of r steps) b u.pdu u.known (sender_tells r b steps (Some e) is),
      is ∙ sym (ap (option_and_then (sender_link r b steps)) u.means ∙ ap (λ k. cond k (first_sender r.entries b steps) None) u.known),
      subst (λ o. IfSome o (λ e. e < length r.entries)) (sym is) (sender_within r.entries b steps),
    )

-- a datagram that nobody sent
received_unsent_here : (r : PlainRecording) (steps : List Step) (s : ℕ) (b : List ℕ) (alone : Judgement) → None ≡ first_sender r.entries b steps
    → is_unsent alone ≡ true → Judges (cause_of r.setting [] (Get s b)) None (length r.entries) alone
    → cause_of r.setting (sequence_of r steps) (Get s b) ≡ Some NeverSent
unfolding cause_of
received_unsent_here r steps s b alone is so judged =
    let u = unsent r.setting b s (told_unsent _ _ _ alone so judged) in
    ap (option_and_then (get_cause r.setting (sequence_of r steps) b)) u.means
    ∙ received_unsent r.setting (sequence_of r steps) b u.pdu u.known (sender_tells r b steps None is)

-- a datagram whose sender does not matter
received_alone : (r : PlainRecording) (steps : List Step) (place s : ℕ) (b : List ℕ) (alone : Judgement) → is_unsent alone ≡ false
    → Judges (cause_of r.setting [] (Get s b)) None (length r.entries) alone
    → Judges (cause_of r.setting (sequence_of r steps) (Get s b)) (link_of r steps place (Get s b)) (length r.entries) alone
received_alone r steps place s b (Forbidden cause) so judged =
    received_else r.setting (sequence_of r steps) b s
    (λ never. not_unsent (Forbidden cause) so (ap (λ (c : Cause). Forbidden c) (same_Some cause NeverSent (sym judged ∙ never)))) ∙ judged
received_alone r steps place s b (Allowed link) so judged = (
  received_else r.setting (sequence_of r steps) b s (λ never. absurd (cc (sym never ∙ judged.0))) ∙ judged.0,
  judged.1 ∙ sym (received_unlinked r steps place s b judged.0),
  judged.2,
)

-- ---- every entry

-- what is not judged to be unsent is judged by its station's log alone
pub judged_alone : (r : PlainRecording) (steps : List Step) (n : ℕ) (e : Entry) (x : Judgement) → is_unsent x ≡ false → IsReady r steps n (event_of e)
    → Judges (event_own_cause r n (event_of e)) (pair_of_entry r n e) (length r.entries) x
    → Judges (cause_of r.setting (sequence_of r steps) (event_of e)) (link_of r steps n (event_of e)) (length r.entries) x
judged_alone r steps n (Sent s stamp b) x so ready own = sent_judged r steps n s b x ready own
judged_alone r steps n (Received s stamp b) x so ready own = received_alone r steps n s b x so own
judged_alone r steps n (Told s e y) x so ready own = told_judged r steps n s e y x ready own

-- none of these causes is that it was never sent
abbrev AreOthers : List (Bool × Cause) → Type 0
AreOthers [] = ⊤
AreOthers (row ∷ rows) = (row.1 ≢ NeverSent) × AreOthers rows

others_never : (rows : List (Bool × Cause)) → AreOthers rows → first_cause rows ≢ Some NeverSent
others_never [] others = λ h. absurd (cc)
others_never (row ∷ rows) others =
    elim row.0 as (λ q. cond q (Some row.1) (first_cause rows) ≢ Some NeverSent) [
      | true ↦ λ h. others.0 (same_Some row.1 NeverSent h)
      | false ↦ others_never rows others.1
    ]

sent_never : (x : ℕ) (o : StationData) (log : History) (m : Option Pdu) → option_and_then (send_cause x o log) m ≢ Some NeverSent
unfolding send_cause
sent_never x o log None = λ h. absurd (cc)
sent_never x o log (Some p) =
    others_never (send_rows x o log p) (λ h. absurd (cc), (λ h. absurd (cc), (λ h. absurd (cc), (λ h. absurd (cc), (λ h. absurd (cc), (λ h. absurd (cc), tt))))))

told_never : (told y : EntityState) → first_cause (tell_rows told y) ≢ Some NeverSent
told_never told y = others_never (tell_rows told y) (λ h. absurd (cc), tt)

-- what is judged to be unsent is a datagram that is received, and is judged by its source
pub judged_by_source : (r : PlainRecording) (steps : List Step) (n : ℕ) (e : Entry) (x given : Judgement) → IsCourse (record { recording = r; steps = steps })
    → slice_get r.entries n ≡ Some e → is_unsent x ≡ true
    → Judges (event_own_cause r n (event_of e)) (pair_of_entry r n e) (length r.entries) x
    → given ≡ source_judgement (if_taken r steps (source_of r n))
    → Judges (cause_of r.setting (sequence_of r steps) (event_of e)) (link_of r steps n (event_of e)) (length r.entries) given
judged_by_source r steps n (Sent s stamp b) x given course at so own is =
    absurd (sent_never r.setting.exercise (station_at r s) (log_before r s n) (meaning r.setting.exercise b) (told_unsent _ _ _ x so own))
judged_by_source r steps n (Told s e y) x given course at so own is =
    absurd (told_never y (state_after r.setting.exercise (station_at r s) (log_before r s n) e) (told_unsent _ _ _ x so own))
judged_by_source r steps n (Received s stamp b) x given course at so own is =
    let told = source_told r steps n s stamp b x course at so own in
    subst (λ g. Judges (cause_of r.setting (sequence_of r steps) (Get s b)) (link_of r steps n (Get s b)) (length r.entries) g)
    (sym (is ∙ ap source_judgement told)) (by_first (first_sender r.entries b steps) refl)
  where
    by_first : (o : Option ℕ) → o ≡ first_sender r.entries b steps
        → Judges (cause_of r.setting (sequence_of r steps) (Get s b)) (link_of r steps n (Get s b)) (length r.entries) (source_judgement o)
    by_first (Some e) first = received_from r steps n s b x e first so own
    by_first None first = received_unsent_here r steps s b x first so own
