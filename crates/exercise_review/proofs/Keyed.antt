-- What has a key means a PDU, and each order has one.
use Rattle.std.proofs.Common.{◌≡◌, ℕ, List, length, cond, true, false, Option, Some, None, refl, sym, ap, ◌∙◌}
use Rattle.std.specs.Prelude.{nat_eq, slice_get, is_some, ◌&&◌, option_and_then, if◌then◌else◌}
use Rattle.std.proofs.lemmas.Option.{same_Some}
use Rattle.siman_pdus.specs.Answers.{same_id}
use Rattle.siman_pdus.specs.declared.pdu.Pdu.{Pdu}
use Rattle.siman_pdus.specs.Role.{is_request_body}
use Rattle.exercise_model.specs.Entry.{Entry, Sent, Received, Told}
use Rattle.exercise_model.specs.Meaning.{meaning}
use Rattle.exercise_model.specs.Place.{first_below}
use Rattle.exercise_model.specs.Recording.{PlainRecording}
use Rattle.exercise_model.specs.Setting.{is_open}
use Rattle.exercise_review.specs.Digest.{digest_of}
use Rattle.exercise_review.specs.Entries.{bytes_sent_by, bytes_sent, pdu_received}
use Rattle.exercise_review.specs.Order.{sends_order, gets_anywhere, is_outside, is_for_station, sent_head, received_head, head_of_entry, head_of, order_of_entry, order_at}
use Rattle.exercise_review.specs.Register.{order_key, id_key, sent_key, receipt_key, entry_key, key_at}
use Rattle.exercise_model.specs.Account.{pair_of}

-- ---- what has a key means a PDU

means_by : {X : Type 0} (f : Pdu → Option X) (m : Option Pdu) → is_some (option_and_then f m) ≡ true → is_some m ≡ true
means_by {X} f None has = absurd (cc)
means_by {X} f (Some p) has = refl

pub sent_meaning : (r : PlainRecording) (s i : ℕ) (b : List ℕ) → bytes_sent r s i ≡ Some b → is_some (key_at r i) ≡ true → is_some (meaning r.setting.exercise b) ≡ true
unfolding bytes_sent key_at
sent_meaning r s i b =
    elim (slice_get r.entries i) as (λ o. option_and_then (bytes_sent_by s) o ≡ Some b → is_some (option_and_then (entry_key r i) o) ≡ true
    → is_some (meaning r.setting.exercise b) ≡ true) [
      | None ↦ λ h _. absurd (cc)
      | Some e ↦ of_entry e
    ]
  where
    of_entry : (e : Entry) → bytes_sent_by s e ≡ Some b → is_some (entry_key r i e) ≡ true → is_some (meaning r.setting.exercise b) ≡ true
    of_entry (Sent t stamp c) = elim (nat_eq t s) as (λ k. cond k (Some c) None ≡ Some b → is_some (option_and_then (sent_key r t i) (meaning r.setting.exercise c)) ≡ true
        → is_some (meaning r.setting.exercise b) ≡ true) [
          | true ↦ λ h has. ap (λ x. is_some (meaning r.setting.exercise x)) (sym (same_Some c b h)) ∙ means_by (sent_key r t i) (meaning r.setting.exercise c) has
          | false ↦ λ h _. absurd (cc)
        ]
    of_entry (Received t stamp c) = λ h _. absurd (cc)
    of_entry (Told t n y) = λ h _. absurd (cc)

-- ---- each order has a key

head_none : (r : PlainRecording) (i : ℕ) (e : Entry) → entry_key r i e ≡ None → head_of_entry r e ≡ None
unfolding sent_key receipt_key order_key
head_none r i (Sent s stamp b) = of_meaning (meaning r.setting.exercise b)
  where
    of_meaning : (m : Option Pdu) → option_and_then (sent_key r s i) m ≡ None → option_and_then (sent_head r s) m ≡ None
    of_meaning None = λ _. refl
    of_meaning (Some p) = elim (is_request_body p.body) as (λ k. (if k then (if k then Some (digest_of s p) else None) else option_and_then (order_key s) (option_and_then (pdu_received r s) (pair_of r i))) ≡ None
        → (if k then first_below (sends_order r s p) (length r.entries) else None) ≡ None) [ true ↦ λ h. absurd (cc) | false ↦ λ _. refl ]
head_none r i (Received s stamp b) = of_meaning (meaning r.setting.exercise b)
  where
    of_meaning : (m : Option Pdu) → option_and_then (receipt_key r.setting.form s) m ≡ None → option_and_then (received_head r) m ≡ None
    of_meaning None = λ _. refl
    of_meaning (Some p) = elim (is_request_body p.body) as (λ k. (if k then (if k then Some (digest_of s p) else None) else (if is_open r.setting.form then id_key s p else None)) ≡ None
        → (if k && (is_outside r p && is_for_station r p) then first_below (gets_anywhere r p) (length r.entries) else None) ≡ None) [ true ↦ λ h. absurd (cc) | false ↦ λ _. refl ]
head_none r i (Told s e y) = λ _. refl

-- AN ENTRY WITHOUT A KEY is the head of no order
pub no_order : (r : PlainRecording) (i : ℕ) → key_at r i ≡ None → None ≡ order_at r i
unfolding key_at head_of order_at
no_order r i none = sym (ap (λ o. if same_id o (Some i) then option_and_then (order_of_entry r i) (slice_get r.entries i) else None) headless)
  where
    of_entry : (o : Option Entry) → option_and_then (entry_key r i) o ≡ None → option_and_then (head_of_entry r) o ≡ None
    of_entry None h = refl
    of_entry (Some e) h = head_none r i e h

    headless : option_and_then (head_of_entry r) (slice_get r.entries i) ≡ None
    headless = of_entry (slice_get r.entries i) none
