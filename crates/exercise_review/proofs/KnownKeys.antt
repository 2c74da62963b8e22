-- The keys of entries, known one after the other.
use Rattle.std.proofs.Common.{◌≡◌, ℕ, ◌≤◌, List, length, true, false, Option, Some, None, refl, sym, ap, ◌∙◌}
use Rattle.std.specs.Prelude.{slice_get, option_and_then, if◌then◌else◌}
use Rattle.std.proofs.lemmas.Bool.{eq-eqb}
use Rattle.std.proofs.lemmas.Option.{slice_get_past}
use Rattle.dis_records.specs.declared.entity_state.EntityState.{EntityState}
use Rattle.siman_pdus.specs.declared.pdu.Pdu.{Pdu}
use Rattle.siman_pdus.specs.Role.{is_request_body}
use Rattle.exercise_model.specs.Entry.{Received, Told}
use Rattle.exercise_model.specs.Recording.{PlainRecording}
use Rattle.exercise_model.specs.Meaning.{meaning}
use Rattle.exercise_model.specs.Setting.{is_open}
use Rattle.exercise_review.specs.Digest.{digest_of}
use Rattle.exercise_review.specs.Entries.{bytes_received_by, bytes_received, pdu_received}
use Rattle.exercise_review.specs.Register.{order_key, id_key, receipt_key, entry_key, key_at}

-- past the last entry there is none
pub key_beyond : (r : PlainRecording) (i : ℕ) → length r.entries ≤ i → None ≡ key_at r i
unfolding key_at
key_beyond r i beyond = sym (ap (option_and_then (entry_key r i)) (slice_get_past r.entries i beyond))

-- a state that is told has none
pub told_unkeyed : (r : PlainRecording) (i s e : ℕ) (y : EntityState) → slice_get r.entries i ≡ Some (Told s e y) → key_at r i ≡ None
unfolding key_at
told_unkeyed r i s e y at = ap (option_and_then (entry_key r i)) at

-- what a station receives in a recording that is not open has the key of the request that it brings, and none of an answer
pub known_key : (r : PlainRecording) (s i stamp : ℕ) (b : List ℕ) → slice_get r.entries i ≡ Some (Received s stamp b) → is_open r.setting.form ≡ false
    → key_at r i ≡ option_and_then (order_key s) (pdu_received r s i)
unfolding key_at receipt_key order_key pdu_received bytes_received
known_key r s i stamp b at closed =
    ap (option_and_then (entry_key r i)) at
    ∙ of_meaning (meaning r.setting.exercise b)
    ∙ sym (ap (λ o. option_and_then (order_key s) (option_and_then (meaning r.setting.exercise) (option_and_then (bytes_received_by s) o))) at
    ∙ ap (λ c. option_and_then (order_key s) (option_and_then (meaning r.setting.exercise) (if c then Some b else None))) (eq-eqb s s refl))
  where
    of_meaning : (m : Option Pdu) → option_and_then (receipt_key r.setting.form s) m ≡ option_and_then (order_key s) m
    of_meaning None = refl
    of_meaning (Some p) =
        ap (λ c. if is_request_body p.body then order_key s p else (if c then id_key s p else None)) closed
        ∙ elim (is_request_body p.body) as
        (λ c. (if c then (if c then Some (digest_of s p) else None) else None) ≡ (if c then Some (digest_of s p) else None)) [ true ↦ refl | false ↦ refl ]
