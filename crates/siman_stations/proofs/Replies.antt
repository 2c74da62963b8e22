-- What a reply that is due, or is not, leaves.
use Rattle.std.proofs.Common.{◌≡◌, ◌≤◌, length, ◌⊎◌, inl, inr, ℕ, Result, Ok, Err, ◌∙◌, true, false, List, [], ◌∷◌, Option, Some, None, is_some, refl, sym, subst, ap}
use Rattle.std.specs.Option.{IfSome}
use Rattle.std.specs.Result.{result_ok}
use Rattle.dis_records.specs.declared.header.TheConstants.{LARGEST_DATAGRAM}
use Rattle.siman_pdus.specs.declared.pdu.Pdu.{Pdu}
use Rattle.siman_pdus.specs.declared.fault.PduFault.{PduFault}
use Rattle.siman_pdus.specs.declared.fault.PduFault.TheVariants.{Memory}
use Rattle.siman_pdus.specs.Reading.{reading}
use Rattle.siman_pdus.specs.Spelling.{pdu_text}
use Rattle.exercise_model.specs.Entry.{Entry, Sent}
use Rattle.exercise_model.specs.Recording.{PlainRecording, with_entry}
use Rattle.siman_application.specs.Application.{ApplicationData, Takes}
use Rattle.siman_stations.specs.declared.moment.Moment.{Moment}
use Rattle.siman_stations.specs.StationTurn.{sent_as, reply_due, RecordsAll, IsUnsent}

-- no entry is that of no reply
pub none_recorded : {R : Type 0} (records : R → Entry → R → Type 0) (s now : ℕ) (due : Option Pdu) (old : R) → false ≡ is_some due
    → RecordsAll records (sent_as s now due) old old
none_recorded records s now None old h = refl
none_recorded records s now (Some p) old h = cc

-- nothing is said of no reply
pub nothing_said : (P : Pdu → Type 0) (due : Option Pdu) → false ≡ is_some due → IfSome due P
nothing_said P None h = tt
nothing_said P (Some p) h = cc

unsent_if : {R F : Type 0} (refuses : R → Entry → F → R → Type 0) (s : ℕ) (at : Moment) (q : Pdu) (fault : F) (old new : R) (before after : ApplicationData) (due : Option Pdu) (sent : List ℕ)
    → reply_due before (Some q) at.stamp ≡ due → true ≡ is_some due → IfSome due (λ p. sent ≡ pdu_text p) → length sent ≤ LARGEST_DATAGRAM
    → refuses old (Sent s at.now sent) fault new → Takes before q after → IsUnsent refuses s at q fault old new before after
unsent_if refuses s at q fault old new before after None sent e h t z r k = cc
unsent_if refuses s at q fault old new before after (Some p) sent e h t z r k =
    record { answer = p; due = e; size = subst (λ (b : List ℕ). length b ≤ LARGEST_DATAGRAM) t z; refused = subst (λ (b : List ℕ). refuses old (Sent s at.now b) fault new) t r; application = k }

-- a reply that is due, with this timestamp and text, and was not recorded
pub unsent : {R F : Type 0} (refuses : R → Entry → F → R → Type 0) (s : ℕ) (at : Moment) (q : Pdu) (fault : F) (old new : R) (before after : ApplicationData) (text sent : List ℕ)
    → sent ≡ text → true ≡ is_some (reply_due before (Some q) at.stamp)
    → IfSome (reply_due before (Some q) at.stamp) (λ p. text ≡ pdu_text p) → length text ≤ LARGEST_DATAGRAM → refuses old (Sent s at.now sent) fault new → Takes before q after
    → IsUnsent refuses s at q fault old new before after
unsent refuses s at q fault old new before after text sent same h t z r k =
    unsent_if refuses s at q fault old new before after (reply_due before (Some q) at.stamp) sent refl h (subst (λ (b : List ℕ). IfSome (reply_due before (Some q) at.stamp) (λ p. b ≡ pdu_text p)) (sym same) t) (subst (λ (b : List ℕ). length b ≤ LARGEST_DATAGRAM) (sym same) z) r k

-- what is said of the reply to a PDU is said of the reply to the datagram that is read as it
pub said_of_reading : (a : ApplicationData) (bytes : List ℕ) (q : Pdu) (stamp : ℕ) (P : Pdu → Type 0) (r : Result Pdu PduFault) → r ≡ Ok q
    → (r ≡ Err Memory) ⊎ (result_ok r ≡ reading bytes) → IfSome (reply_due a (Some q) stamp) P → IfSome (reply_due a (reading bytes) stamp) P
said_of_reading a bytes q stamp P r is (inl h) t = cc
said_of_reading a bytes q stamp P r is (inr h) t = subst (λ (o : Option Pdu). IfSome (reply_due a o stamp) P) (ap result_ok (sym is) ∙ h) t

-- what is recorded in memory leaves the setting as it was
pub same_setting : (es : List Entry) (old new : PlainRecording) → RecordsAll (λ (o : PlainRecording) e (n : PlainRecording). n ≡ with_entry o e) es old new → new.setting ≡ old.setting
same_setting [] old new h = ap (λ (r : PlainRecording). r.setting) h
same_setting (e ∷ es) old new h = same_setting es h.0 new h.2 ∙ ap (λ (r : PlainRecording). r.setting) h.1
