-- What the form of a recording decides of a datagram that is received.
use Rattle.std.proofs.Common.{◌≡◌, ℕ, List, [], ◌∷◌, Option, Some, Bool, true, false, refl, sym, ap, ◌∙◌}
use Rattle.std.specs.Prelude.{not, ◌&&◌, ◌||◌, option_and_then}
use Rattle.std.proofs.lemmas.Bool.{false≢true}
use Rattle.std.proofs.lemmas.List.Folds.{list_any_at}
use Rattle.siman_pdus.specs.declared.pdu.Pdu.{Pdu}
use Rattle.exercise_model.specs.declared.form.Form.TheVariants.{Open}
use Rattle.exercise_model.specs.declared.cause.Cause.{Cause}
use Rattle.exercise_model.specs.declared.cause.Cause.TheVariants.{Stranger, NeverSent}
use Rattle.exercise_model.specs.Station.{StationData}
use Rattle.exercise_model.specs.Recording.{PlainRecording, IsRecording}
use Rattle.exercise_model.specs.History.{Send, Get, History}
use Rattle.exercise_model.specs.Meaning.{meaning}
use Rattle.exercise_model.specs.Setting.{SettingData, nowhere, is_from, is_recorded, is_open, may_be_heard}
use Rattle.exercise_model.specs.Cause.{first_cause, get_cause, was_sent, cause_of, IsAllowed}
use Rattle.exercise_model.specs.Run.{Explains}
use Rattle.exercise_model.proofs.Confluence.{get_where_sent, recorded_heard}
use Rattle.exercise_model.proofs.Sentences.{allowed_at, sender_before, at_recorded, own_address}

-- the causes on receiving, by who may be heard, who must have sent it, and whether it was sent
abbrev rows : Bool → Bool → Bool → Option Cause
rows heard must sent = first_cause ((not heard, Stranger) ∷ (must && not sent, NeverSent) ∷ [])

cause_is : (w : SettingData) (h : History) (s : ℕ) (b : List ℕ) (p : Pdu) → meaning w.exercise b ≡ Some p
    → cause_of w h (Get s b) ≡ rows (is_open w.form || is_recorded w p) (is_recorded w p) (was_sent b h)
unfolding cause_of get_cause may_be_heard
cause_is w h s b p meant = ap (option_and_then (get_cause w h b)) meant

pub open_is_heard : (w : SettingData) (h : History) (s : ℕ) (b : List ℕ) (p : Pdu) → meaning w.exercise b ≡ Some p → is_recorded w p ≡ false
    → w.form ≡ Open → IsAllowed w h (Get s b)
open_is_heard w h s b p meant outside form =
    cause_is w h s b p meant ∙ ap (λ f. rows (is_open f || is_recorded w p) (is_recorded w p) (was_sent b h)) form
    ∙ ap (λ k. rows true k (was_sent b h)) outside

pub outside_is_stranger : (w : SettingData) (h : History) (s : ℕ) (b : List ℕ) (p : Pdu) → meaning w.exercise b ≡ Some p → is_recorded w p ≡ false
    → is_open w.form ≡ false → cause_of w h (Get s b) ≡ Some Stranger
outside_is_stranger w h s b p meant outside form =
    cause_is w h s b p meant ∙ ap (λ o. rows (o || is_recorded w p) (is_recorded w p) (was_sent b h)) form
    ∙ ap (λ k. rows k k (was_sent b h)) outside

pub sent_is_allowed : (w : SettingData) (h : History) (s : ℕ) (b : List ℕ) (p : Pdu) → meaning w.exercise b ≡ Some p → is_recorded w p ≡ true
    → was_sent b h ≡ true → IsAllowed w h (Get s b)
unfolding cause_of
sent_is_allowed w h s b p meant recorded sent = ap (option_and_then (get_cause w h b)) meant ∙ get_where_sent w h b p recorded sent

pub unsent_is_never_sent : (w : SettingData) (h : History) (s : ℕ) (b : List ℕ) (p : Pdu) → meaning w.exercise b ≡ Some p → is_recorded w p ≡ true
    → was_sent b h ≡ false → cause_of w h (Get s b) ≡ Some NeverSent
unfolding cause_of get_cause
unsent_is_never_sent w h s b p meant recorded unsent =
    ap (option_and_then (get_cause w h b)) meant ∙ rw (recorded_heard w p recorded, recorded, unsent) refl

-- what a station sent in a run comes from a recorded one
pub sent_from_recorded : (r : PlainRecording) (h : History) (b : List ℕ) (p : Pdu) → IsRecording r → Explains r h → meaning r.setting.exercise b ≡ Some p
    → was_sent b h ≡ true → is_recorded r.setting p ≡ true
unfolding is_recorded
sent_from_recorded r h b p limits explains meant sent =
    let at = sender_before b h sent in
    let own = own_address r at.1 at.0 b p (allowed_at r.setting h at.1 (Send at.0 b) explains.run at.2).1 meant in
    list_any_at (λ (o : StationData). is_from o.address p) r.setting.stations at.0 nowhere (at_recorded r h at.1 (Send at.0 b) limits explains at.2) own

pub outside_sends_nothing : (r : PlainRecording) (h : History) (b : List ℕ) (p : Pdu) → IsRecording r → Explains r h → meaning r.setting.exercise b ≡ Some p
    → is_recorded r.setting p ≡ false → was_sent b h ≡ false
outside_sends_nothing r h b p limits explains meant outside =
    elim (was_sent b h) as (λ t. was_sent b h ≡ t → t ≡ false) [
      | true ↦ λ sent. absurd (false≢true (sym outside ∙ sent_from_recorded r h b p limits explains meant sent))
      | false ↦ λ _. refl
    ] refl
