-- What stands above all that a station sent before was not sent before.
use Rattle.std.proofs.Common.{◌≡◌, ◌≢◌, ⊎_elim, ℕ, ◌+◌, ◌<◌, ◌≤◌, List, length, cond, true, false, Bool, Some, None, refl, sym, ap, ◌∙◌, arith}
use Rattle.std.specs.Prelude.{nat_eq, nat_lt, option_map, option_and_then, set, slice_get, slice_index_or, ◌||◌, if◌then◌else◌}
use Rattle.std.proofs.lemmas.Bool.{cases_lt, cases_eq, eq-eqb, eqb-true, ltb-true, ltb-false}
use Rattle.std.proofs.lemmas.List.{get_or-set_same, get_or-set_other, length-set}
use Rattle.std.proofs.lemmas.Option.{same_Some}
use Rattle.dis_records.specs.declared.entity_state.EntityState.{EntityState}
use Rattle.siman_pdus.specs.declared.pdu.Pdu.{Pdu}
use Rattle.exercise_model.specs.Entry.{Entry, Sent}
use Rattle.exercise_model.specs.Recording.{PlainRecording}
use Rattle.exercise_model.specs.History.{Send, Get, Tell, event_of}
use Rattle.exercise_model.specs.Meaning.{meaning}
use Rattle.exercise_model.specs.Place.{event_at, own_event, first_below}
use Rattle.exercise_findings.specs.declared.rising.HighWaterMarks.{HighWaterMarks}
use Rattle.exercise_findings.specs.FirstSends.{IsNewSend}
use Rattle.exercise_findings.specs.Requests.{IsSendOf}
use Rattle.exercise_findings.specs.HighWaterMarks.{mark_of, mark_at, AreHighWaterMarks}
use Rattle.exercise_findings.specs.Sent.{meant_by_send}
use Rattle.exercise_findings.specs.Source.{is_source, first_source}
use Rattle.exercise_findings.proofs.FirstSends.{same_sends}
use Rattle.exercise_findings.proofs.Keyed.{passes}

-- the mark of what an entry sends at a station
mark_sent : (r : PlainRecording) (j t stamp s : ℕ) (b : List ℕ) → slice_get r.entries j ≡ Some (Sent t stamp b)
    → mark_at r s j ≡ cond (nat_eq t s) (option_map mark_of (meaning r.setting.exercise b)) None
unfolding mark_at own_event
mark_sent r j t stamp s b at =
    ap (λ o. option_map mark_of (option_and_then (meant_by_send r.setting.exercise) (option_and_then (λ e. event_at s (event_of e)) o))) at
    ∙ elim (nat_eq t s) as (λ q. option_map mark_of (option_and_then (meant_by_send r.setting.exercise) (cond q (Some (Send t b)) None))
    ≡ cond q (option_map mark_of (meaning r.setting.exercise b)) None) [ true ↦ refl | false ↦ refl ]

-- and at its own
mark_own : (r : PlainRecording) (j s stamp : ℕ) (b : List ℕ) → slice_get r.entries j ≡ Some (Sent s stamp b)
    → mark_at r s j ≡ option_map mark_of (meaning r.setting.exercise b)
mark_own r j s stamp b at =
    mark_sent r j s stamp s b at ∙ ap (λ q. cond q (option_map mark_of (meaning r.setting.exercise b)) None) (eq-eqb s s refl)

-- WHAT STANDS ABOVE all that its station sent before is new
pub new_above : (r : PlainRecording) (n s : ℕ) (p : Pdu) (x : HighWaterMarks) → s < length r.setting.stations → IsSendOf r n s p → AreHighWaterMarks r n x
    → slice_index_or x.tops.items s 0 < mark_of p → IsNewSend r n
unfolding first_source
new_above r n s p x within send tied above b source =
    elim (first_below (is_source r b) n) as (λ o. first_below (is_source r b) n ≡ o → o ≡ None) [
      | None ↦ λ _. refl
      | Some j ↦ λ found.
          let before = passes (is_source r b) n j found in
          let sends = same_sends r b j n before.1 source in
          let there = sends.1.0.1 in
          let here = sends.1.1.1 in
          let same : Sent sends.0 sends.1.1.0 b ≡ Sent s send.stamp send.bytes = same_Some _ _ (sym here ∙ send.at) in
          let station : sends.0 ≡ s = cc in
          let bytes : b ≡ send.bytes = cc in
          let marked : mark_at r s j ≡ Some (mark_of p) =
          mark_own r j s sends.1.0.0 b (there ∙ ap (λ t. Some (Sent t sends.1.0.0 b)) station)
          ∙ ap (λ c. option_map mark_of (meaning r.setting.exercise c)) bytes ∙ ap (option_map mark_of) send.means in
          absurd (omega (arith, above, tied.below s j (mark_of p) within before.0 marked))
    ] refl

pub new_either : (a b : Bool) (P : Type 0) → (a || b) ≡ true → (a ≡ true → P) → (b ≡ true → P) → P
new_either true b P any one other = one refl
new_either false b P any one other = other any

-- ---- one entry more

-- where no top falls, and the next entry stands no higher than that of its station
rising_on : (r : PlainRecording) (n : ℕ) (x y : HighWaterMarks) → length y.tops.items ≡ length x.tops.items
    → ((s : ℕ) → slice_index_or x.tops.items s 0 ≤ slice_index_or y.tops.items s 0)
    → ((s mark : ℕ) → s < length r.setting.stations → mark_at r s n ≡ Some mark → mark ≤ slice_index_or y.tops.items s 0)
    → AreHighWaterMarks r n x → AreHighWaterMarks r (n + 1) y
rising_on r n x y room higher here tied = record {
  room = room ∙ tied.room;
  below = λ s j mark within before marked. ⊎_elim
      (λ (below : j < n). omega (arith, higher s, tied.below s j mark within below marked))
      (λ (from : n ≤ j). let last : j ≡ n = omega (arith, from, before) in here s mark within (ap (mark_at r s) (sym last) ∙ marked))
      (cases_lt j n);
}

-- an entry that sends no PDU
pub rising_pass : (r : PlainRecording) (n : ℕ) (e : Entry) (x : HighWaterMarks) → slice_get r.entries n ≡ Some e
    → ((s : ℕ) → option_and_then (meant_by_send r.setting.exercise) (event_at s (event_of e)) ≡ None) → AreHighWaterMarks r n x → AreHighWaterMarks r (n + 1) x
unfolding mark_at own_event
rising_pass r n e x at none tied =
    rising_on r n x x refl (λ s. omega arith)
    (λ s mark within marked. absurd (cc (sym marked
    ∙ ap (λ o. option_map mark_of (option_and_then (meant_by_send r.setting.exercise) (option_and_then (λ e. event_at s (event_of e)) o))) at
    ∙ ap (option_map mark_of) (none s))))
    tied

pub other_unmarked : (r : PlainRecording) (t : ℕ) (b : List ℕ) → meaning r.setting.exercise b ≡ None
    → (s : ℕ) → option_and_then (meant_by_send r.setting.exercise) (event_at s (Send t b)) ≡ None
other_unmarked r t b other s = elim (nat_eq t s) as (λ q. option_and_then (meant_by_send r.setting.exercise) (cond q (Some (Send t b)) None) ≡ None) [
  | true ↦ other
  | false ↦ refl
]

pub got_nothing : (r : PlainRecording) (t : ℕ) (b : List ℕ) (s : ℕ) → option_and_then (meant_by_send r.setting.exercise) (event_at s (Get t b)) ≡ None
got_nothing r t b s = elim (nat_eq t s) as (λ q. option_and_then (meant_by_send r.setting.exercise) (cond q (Some (Get t b)) None) ≡ None) [
  | true ↦ refl
  | false ↦ refl
]

pub told_nothing : (r : PlainRecording) (t m : ℕ) (y : EntityState) (s : ℕ)
    → option_and_then (meant_by_send r.setting.exercise) (event_at s (Tell t m y)) ≡ None
told_nothing r t m y s = elim (nat_eq t s) as (λ q. option_and_then (meant_by_send r.setting.exercise) (cond q (Some (Tell t m y)) None) ≡ None) [
  | true ↦ refl
  | false ↦ refl
]

-- the top of a station that rises
risen : (tops : List ℕ) (s t mark : ℕ) → s < length tops → slice_index_or tops s 0 < mark
    → slice_index_or tops t 0 ≤ slice_index_or (set tops s mark) t 0
risen tops s t mark within above = ⊎_elim
    (λ (same : t ≡ s).
    let was : slice_index_or tops t 0 ≡ slice_index_or tops s 0 = ap (λ k. slice_index_or tops k 0) same in
    let is : slice_index_or (set tops s mark) t 0 ≡ mark = ap (λ k. slice_index_or (set tops s mark) k 0) same ∙ get_or-set_same tops s mark 0 within in
    omega (arith, was, is, above))
    (λ (apart : t ≢ s).
    let is : slice_index_or (set tops s mark) t 0 ≡ slice_index_or tops t 0 = get_or-set_other tops s t mark 0 apart in
    omega (arith, is))
    (cases_eq t s)

-- AN ENTRY THAT SENDS A PDU, whose mark is kept where it stands above the top of its station
pub rising_more : (r : PlainRecording) (n s : ℕ) (p : Pdu) (x y : HighWaterMarks) (higher : Bool) → s < length r.setting.stations → IsSendOf r n s p
    → higher ≡ nat_lt (slice_index_or x.tops.items s 0) (mark_of p) → y.tops.items ≡ (if higher then set x.tops.items s (mark_of p) else x.tops.items)
    → AreHighWaterMarks r n x → AreHighWaterMarks r (n + 1) y
rising_more r n s p x y higher within send is tops tied = by higher is tops
  where
    of_mark : (t mark : ℕ) → mark_at r t n ≡ Some mark → (t ≡ s) × (mark ≡ mark_of p)
    of_mark t mark marked = elim (nat_eq s t) as (λ q. nat_eq s t ≡ q → cond q (option_map mark_of (meaning r.setting.exercise send.bytes)) None ≡ Some mark
        → (t ≡ s) × (mark ≡ mark_of p)) [
          | true ↦ λ same m. (sym (eqb-true s t same), sym (same_Some (mark_of p) mark (sym (ap (option_map mark_of) send.means) ∙ m)))
          | false ↦ λ _ m. absurd (cc m)
        ] refl (sym (mark_sent r n s send.stamp t send.bytes send.at) ∙ marked)

    by : (b : Bool) → b ≡ nat_lt (slice_index_or x.tops.items s 0) (mark_of p) → y.tops.items ≡ (if b then set x.tops.items s (mark_of p) else x.tops.items)
        → AreHighWaterMarks r (n + 1) y
    by true is tops =
        let room : s < length x.tops.items = omega (arith, within, tied.room) in
        let above : slice_index_or x.tops.items s 0 < mark_of p = ltb-true _ _ (sym is) in
        rising_on r n x y (ap length tops ∙ length-set x.tops.items s (mark_of p))
        (λ t. rw tops (risen x.tops.items s t (mark_of p) room above))
        (λ t mark _ marked.
        let own = of_mark t mark marked in
        let top : slice_index_or y.tops.items t 0 ≡ mark_of p =
        ap (λ xs. slice_index_or xs t 0) tops ∙ ap (λ k. slice_index_or (set x.tops.items s (mark_of p)) k 0) own.0
        ∙ get_or-set_same x.tops.items s (mark_of p) 0 room in
        omega (arith, own.1, top))
        tied
    by false is tops =
        rising_on r n x y (ap length tops) (λ t. rw tops (omega arith))
        (λ t mark _ marked.
        let own = of_mark t mark marked in
        let not_above : mark_of p ≤ slice_index_or x.tops.items s 0 = ltb-false _ _ (sym is) in
        let top : slice_index_or y.tops.items t 0 ≡ slice_index_or x.tops.items s 0 = ap (λ xs. slice_index_or xs t 0) tops ∙ ap (λ k. slice_index_or x.tops.items k 0) own.0 in
        omega (arith, own.1, top, not_above))
        tied

-- before the first entry
pub none_rising : (r : PlainRecording) (x : HighWaterMarks) → length x.tops.items ≡ length r.setting.stations → AreHighWaterMarks r 0 x
none_rising r x room = record { room = room; below = λ s j mark _ before. absurd (omega (arith, before)) }

-- what is told of a mark that stands above
pub new_higher : (r : PlainRecording) (n s : ℕ) (p : Pdu) (x : HighWaterMarks) (higher : Bool) → s < length r.setting.stations → IsSendOf r n s p → AreHighWaterMarks r n x
    → higher ≡ nat_lt (slice_index_or x.tops.items s 0) (mark_of p) → higher ≡ true → IsNewSend r n
new_higher r n s p x higher within send tied is so = new_above r n s p x within send tied (ltb-true _ _ (sym is ∙ so))
