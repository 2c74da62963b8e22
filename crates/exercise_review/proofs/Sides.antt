-- What is told where a side of an order was not recorded.
use Rattle.std.proofs.Common.{◌≡◌, ℕ, length, Bool, true, false, Option, Some, None, refl, sym, ap}
use Rattle.std.specs.Prelude.{slice_get, is_some, not, ◌&&◌, option_map, option_and_then, if◌then◌else◌}
use Rattle.std.proofs.lemmas.Option.{same_Some}
use Rattle.dis_records.specs.declared.address.SiteApplication.{SiteApplication}
use Rattle.siman_pdus.specs.declared.pdu.Pdu.{Pdu}
use Rattle.siman_pdus.specs.Role.{is_request_body}
use Rattle.siman_pdus.specs.Answers.{same_id}
use Rattle.exercise_model.specs.Entry.{Entry, Sent, Received, Told}
use Rattle.exercise_model.specs.Recording.{PlainRecording}
use Rattle.exercise_model.specs.Setting.{is_open}
use Rattle.exercise_model.specs.Meaning.{meaning}
use Rattle.exercise_model.specs.Place.{first_below}
use Rattle.exercise_review.specs.declared.fate.Fate.TheVariants as fates
use Rattle.exercise_review.specs.declared.fate.Traces.{Traces}
use Rattle.exercise_review.specs.declared.party.Party.{Party}
use Rattle.exercise_review.specs.declared.party.Party.TheVariants as parties
use Rattle.exercise_review.specs.Order.{OrderData, gets_anywhere, is_outside, received_head, head_of_entry, head_of, made_by, order_of_entry, order_at}
use Rattle.exercise_review.specs.Party.{is_party_outside}
use Rattle.exercise_review.specs.Fate.{fate_of_traces, traces_of, fate_of, needs_both_logs}

-- the rows that ask the log of the maker are passed where there is none
unmade : (t : Traces) → t.made ≡ false → needs_both_logs (fate_of_traces t) ≡ false
unmade t none =
    rw none (elim t.replied as (λ a. needs_both_logs (if a && not t.settled then fates.Pending else (if t.got && not a then fates.Unanswered else (if not t.got then fates.Lost else fates.Unknown))) ≡ false) [
      | true ↦ elim t.settled as (λ b. needs_both_logs (if not b then fates.Pending else (if t.got && false then fates.Unanswered else (if not t.got then fates.Lost else fates.Unknown))) ≡ false) [
        | false ↦ refl
        | true ↦ elim t.got as (λ c. needs_both_logs (if c && false then fates.Unanswered else (if not c then fates.Lost else fates.Unknown)) ≡ false) [ true ↦ refl | false ↦ refl ]
      ]
      | false ↦ elim t.got as (λ c. needs_both_logs (if c && true then fates.Unanswered else (if not c then fates.Lost else fates.Unknown)) ≡ false) [ true ↦ refl | false ↦ refl ]
    ])

-- WHERE THE MAKER WAS NOT RECORDED the fate asks no log of it
pub fate_unmade : (r : PlainRecording) (o : OrderData) (party : Party) → o.maker ≡ None → needs_both_logs (fate_of r o party) ≡ false
unfolding fate_of traces_of
fate_unmade r o (parties.Station t) none = unmade (traces_of r o t) (ap is_some none)
fate_unmade r o (parties.Outside a) none = refl

-- IN A CLOSED RECORDING nobody outside is a party
pub none_outside : (r : PlainRecording) (o : OrderData) (a : SiteApplication) → is_open r.setting.form ≡ false → is_party_outside r o a ≡ false
unfolding is_party_outside
none_outside r o a closed = rw closed refl

-- and no order came from outside
pub made_inside : (r : PlainRecording) (i : ℕ) (o : OrderData) → is_open r.setting.form ≡ false → order_at r i ≡ Some o → is_some o.maker ≡ true
unfolding order_at head_of is_outside
made_inside r i o closed =
    elim (slice_get r.entries i) as (λ e. (if same_id (option_and_then (head_of_entry r) e) (Some i) then option_and_then (order_of_entry r i) e else None) ≡ Some o
    → is_some o.maker ≡ true) [ None ↦ λ h. absurd (cc) | Some e ↦ of_entry e ]
  where
    kept : (x : Option OrderData) (b : Bool) → (if b then x else None) ≡ Some o → x ≡ Some o
    kept x true h = h
    kept x false h = absurd (cc)

    sent : (s : ℕ) (m : Option Pdu) → option_map (made_by i (Some s)) m ≡ Some o → is_some o.maker ≡ true
    sent s None h = absurd (cc)
    sent s (Some p) h = ap (λ (x : OrderData). is_some x.maker) (sym (same_Some (made_by i (Some s) p) o h))

    no_head : (p : Pdu) → received_head r p ≡ None
    no_head p = rw closed (elim (is_request_body p.body) as (λ b. (if b && false then first_below (gets_anywhere r p) (length r.entries) else None) ≡ None) [ true ↦ refl | false ↦ refl ])

    got : (m : Option Pdu) → (if same_id (option_and_then (received_head r) m) (Some i) then option_map (made_by i None) m else None) ≡ Some o → is_some o.maker ≡ true
    got None h = absurd (cc)
    got (Some p) h = absurd (cc (no_head p, h))

    of_entry : (e : Entry) → (if same_id (head_of_entry r e) (Some i) then order_of_entry r i e else None) ≡ Some o → is_some o.maker ≡ true
    of_entry (Sent s stamp b) h = sent s (meaning r.setting.exercise b) (kept (order_of_entry r i (Sent s stamp b)) (same_id (head_of_entry r (Sent s stamp b)) (Some i)) h)
    of_entry (Received s stamp b) h = got (meaning r.setting.exercise b) h
    of_entry (Told s e y) h = absurd (cc)
