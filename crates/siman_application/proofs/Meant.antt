-- Turns whose texts are read as what was ordered and replied: those of a station are such.
use Rattle.std.proofs.Common.{◌≡◌, ℕ, List, [], ◌∷◌, ap, ◌∙◌}
use Rattle.std.specs.Prelude.{Bool, true, false, ◌==◌, ◌||◌, Option, Some, IfSome}
use Rattle.siman_pdus.specs.declared.pdu.Pdu.{Pdu}
use Rattle.siman_pdus.specs.Ranges.{IsInRange}
use Rattle.siman_pdus.specs.Reading.{reading}
use Rattle.siman_pdus.specs.Role.{is_request_body}
use Rattle.siman_pdus.specs.Spelling.{pdu_text}
use Rattle.siman_pdus.proofs.Offered.{read_in_range}
use Rattle.exercise_model.specs.Meaning.{meaning}
use Rattle.siman_application.specs.AppProfile.{AppProfile}
use Rattle.siman_application.specs.Ranges.{IsProfileInRange}
use Rattle.siman_application.specs.Play.{reply}
use Rattle.siman_application.specs.OwnLog.{OwnTurn, Tells, Orders, Passes, Takes, Loses, taken_in, IsOrder, IsRead, is_due, AreTurns}
use Rattle.siman_application.proofs.Answered.{equal_self}
use Rattle.siman_application.proofs.Replies.{Each, reply_read}
use Rattle.siman_application.proofs.Meanings.{request_means}

-- the text of a reply is read as it
abbrev pub IsReplyText : Option Pdu → Type 0
IsReplyText o = IfSome o (λ p. reading (pdu_text p) ≡ Some p)

-- the datagram is read as the PDU, which is in its ranges
pub record IsTaken (b : List ℕ) (q : Pdu) : Type 0 where
  pub read : reading b ≡ Some q
  pub ranges : IsInRange q

-- the datagram of an order means it, and it is a request
pub record IsOrdered (a : AppProfile) (b : List ℕ) (p : Pdu) : Type 0 where
  pub means : meaning a.exercise b ≡ Some p
  pub request : is_request_body p.body ≡ true

-- the turns, where `later` says that a reply is due later on
abbrev pub AreMeant : AppProfile → Bool → List OwnTurn → Type 0
AreMeant a later [] = Unit {0}
AreMeant a later (Tells e y ∷ ts) = AreMeant a later ts
AreMeant a later (Orders b p ∷ ts) = IsOrdered a b p × AreMeant a later ts
AreMeant a later (Passes b ∷ ts) = AreMeant a later ts
AreMeant a later (Takes b q stamp ∷ ts) = IsTaken b q × IsReplyText (reply a (taken_in ts) q stamp) × AreMeant a (later || is_due a ts q stamp) ts
AreMeant a later (Loses b q stamp ∷ ts) = IsTaken b q × (later ≡ false) × AreMeant a true ts

taken : (b : List ℕ) (q : Pdu) → IsRead b q → IsTaken b q
taken b q is = record { read = is.read; ranges = read_in_range b q is.bytes is.read }

ordered : (a : AppProfile) (b : List ℕ) (p : Pdu) → IsOrder a b p → IsOrdered a b p
ordered a b p is = record {
  means = request_means a.exercise b p is.read.read (ap (λ (n : ℕ). n == a.exercise) is.exercise ∙ equal_self a.exercise) is.request;
  request = is.request;
}

pub taken_in_range : (a : AppProfile) (later : Bool) (ts : List OwnTurn) → AreTurns a later ts → Each IsInRange (taken_in ts)
taken_in_range a later [] are = tt
taken_in_range a later (Tells e y ∷ ts) are = taken_in_range a later ts are
taken_in_range a later (Orders b p ∷ ts) are = taken_in_range a later ts are.1
taken_in_range a later (Passes b ∷ ts) are = taken_in_range a later ts are
taken_in_range a later (Takes b q stamp ∷ ts) are = ((taken b q are.0).ranges, taken_in_range a (later || is_due a ts q stamp) ts are.2)
taken_in_range a later (Loses b q stamp ∷ ts) are = ((taken b q are.0).ranges, taken_in_range a true ts are.4)

-- THE TURNS OF A STATION ARE MEANT
pub meant_turns : (a : AppProfile) → IsProfileInRange a → (later : Bool) (ts : List OwnTurn) → AreTurns a later ts → AreMeant a later ts
meant_turns a own later [] are = tt
meant_turns a own later (Tells e y ∷ ts) are = meant_turns a own later ts are
meant_turns a own later (Orders b p ∷ ts) are = (ordered a b p are.0, meant_turns a own later ts are.1)
meant_turns a own later (Passes b ∷ ts) are = meant_turns a own later ts are
meant_turns a own later (Takes b q stamp ∷ ts) are =
    let is = taken b q are.0 in (
      is,
      reply_read a (taken_in ts) q stamp own (taken_in_range a (later || is_due a ts q stamp) ts are.2) is.ranges are.1,
      meant_turns a own
          (later || is_due a ts q stamp) ts are.2,
    )
meant_turns a own later (Loses b q stamp ∷ ts) are = (taken b q are.0, are.3, meant_turns a own true ts are.4)
