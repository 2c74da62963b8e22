-- The log of a station whose application answers, THE LAST EVENT FIRST (profile).
use Rattle.std.specs.Prelude.{◌≡◌, ℕ, ◌^◌, ◌<◌, ◌≤◌, List, [], ◌∷◌, slice_index, Bool, ◌||◌, true, false, Option, Some, None, is_some, ◌⊎◌}
use Rattle.dis_records.specs.declared.entity_state.EntityState.{EntityState}
use Rattle.siman_pdus.specs.declared.pdu.Pdu.{Pdu}
use Rattle.siman_pdus.specs.Reading.{reading}
use Rattle.siman_pdus.specs.Role.{is_request_body}
use Rattle.siman_pdus.specs.Same.{IsSameOrder}
use Rattle.siman_pdus.specs.Spelling.{pdu_text}
use Rattle.exercise_model.specs.History.{History, Send, Get, Tell}
use Rattle.exercise_model.specs.Meaning.{meaning}
use Rattle.exercise_model.specs.Exchange.{is_answer_body}
use Rattle.exercise_model.specs.Cause.{send_cause}
use Rattle.siman_application.specs.AppProfile.{AppProfile}
use Rattle.siman_application.specs.Distinct.{is_under_key}
use Rattle.siman_application.specs.Play.{reply}
use Rattle.siman_application.specs.Ranges.{IsProfileInRange}

-- one turn of a station
pub data OwnTurn : Type 0 where
  -- it tells the state of an entity
  Tells : (entity : ℕ) (state : EntityState) → OwnTurn
  -- its manager sends an order, in one of its spellings
  Orders : (bytes : List ℕ) (order : Pdu) → OwnTurn
  -- it receives a datagram that its application does not take
  Passes : (bytes : List ℕ) → OwnTurn
  -- it receives a datagram whose PDU its application takes, and sends the reply at once with this timestamp, if one
  -- is due
  Takes : (bytes : List ℕ) (pdu : Pdu) (stamp : ℕ) → OwnTurn
  -- likewise, but the reply that is due is not sent
  Loses : (bytes : List ℕ) (pdu : Pdu) (stamp : ℕ) → OwnTurn

-- the PDUs that the application took in these turns, the last first
abbrev pub taken_in : List OwnTurn → List Pdu
taken_in [] = []
taken_in (Tells e y ∷ ts) = taken_in ts
taken_in (Orders b p ∷ ts) = taken_in ts
taken_in (Passes b ∷ ts) = taken_in ts
taken_in (Takes b q stamp ∷ ts) = q ∷ taken_in ts
taken_in (Loses b q stamp ∷ ts) = q ∷ taken_in ts

-- a log with a reply appended, if any
abbrev pub sent_after : ℕ → Option Pdu → History → History
sent_after s None log = log
sent_after s (Some p) log = Send s (pdu_text p) ∷ log

-- THE LOG OF THESE TURNS at station s
abbrev pub log_in : AppProfile → ℕ → List OwnTurn → History
log_in a s [] = []
log_in a s (Tells e y ∷ ts) = Tell s e y ∷ log_in a s ts
log_in a s (Orders b p ∷ ts) = Send s b ∷ log_in a s ts
log_in a s (Passes b ∷ ts) = Get s b ∷ log_in a s ts
log_in a s (Takes b q stamp ∷ ts) = sent_after s (reply a (taken_in ts) q stamp) (Get s b ∷ log_in a s ts)
log_in a s (Loses b q stamp ∷ ts) = Get s b ∷ log_in a s ts

-- the datagram consists of bytes, and is decoded as the PDU
pub record IsRead (b : List ℕ) (q : Pdu) : Type 0 where
  pub bytes : (i : ℕ) → slice_index b i < 256
  pub read : reading b ≡ Some q

-- an order of the station: a datagram that is decoded as a request of the exercise, in any of its spellings
pub record IsOrder (a : AppProfile) (b : List ℕ) (p : Pdu) : Type 0 where
  pub exercise : p.exercise ≡ a.exercise
  pub request : is_request_body p.body ≡ true
  pub read : IsRead b p

-- a reply is due to a PDU that is taken after these turns
abbrev pub is_due : AppProfile → List OwnTurn → Pdu → ℕ → Bool
is_due a ts q stamp = is_some (reply a (taken_in ts) q stamp)

-- THE TURNS OF A STATION, where `later` says that a reply is due later on: each of its orders is an order, each PDU
-- that it takes is decoded from its datagram, and no reply is missing but the last that is due
abbrev pub AreTurns : AppProfile → Bool → List OwnTurn → Type 0
AreTurns a later [] = Unit {0}
AreTurns a later (Tells e y ∷ ts) = AreTurns a later ts
AreTurns a later (Orders b p ∷ ts) = IsOrder a b p × AreTurns a later ts
AreTurns a later (Passes b ∷ ts) = AreTurns a later ts
AreTurns a later (Takes b q stamp ∷ ts) = IsRead b q × (stamp < 2 ^ 32) × AreTurns a (later || is_due a ts q stamp) ts
AreTurns a later (Loses b q stamp ∷ ts) = IsRead b q × (stamp < 2 ^ 32) × (is_due a ts q stamp ≡ true) × (later ≡ false) × AreTurns a true ts

-- A LOG THAT SUCH A STATION WRITES in these turns, and the PDUs that its application took
pub record IsOwnLog (a : AppProfile) (s : ℕ) (ts : List OwnTurn) (h : History) (qs : List Pdu) : Type 0 where
  pub outfit : IsProfileInRange a
  pub turns : AreTurns a false ts
  pub log_is : log_in a s ts ≡ h
  pub taken_is : taken_in ts ≡ qs

-- no reply is missing
abbrev pub MissNone : List OwnTurn → Type 0
MissNone [] = Unit {0}
MissNone (Tells e y ∷ ts) = MissNone ts
MissNone (Orders b p ∷ ts) = MissNone ts
MissNone (Passes b ∷ ts) = MissNone ts
MissNone (Takes b q stamp ∷ ts) = MissNone ts
MissNone (Loses b q stamp ∷ ts) = ⊥

-- the application took each received PDU
abbrev pub TakesAll : List OwnTurn → Type 0
TakesAll [] = Unit {0}
TakesAll (Tells e y ∷ ts) = TakesAll ts
TakesAll (Orders b p ∷ ts) = TakesAll ts
TakesAll (Passes b ∷ ts) = (reading b ≡ None) × TakesAll ts
TakesAll (Takes b q stamp ∷ ts) = TakesAll ts
TakesAll (Loses b q stamp ∷ ts) = TakesAll ts

-- a log that receives this datagram
abbrev pub HasGet : History → List ℕ → Type 0
HasGet [] b = ⊥
HasGet (Send s c ∷ log) b = HasGet log b
HasGet (Get s c ∷ log) b = (c ≡ b) ⊎ HasGet log b
HasGet (Tell s e y ∷ log) b = HasGet log b

-- no site and application used one request identifier for two orders, as far as a log received them
abbrev pub AreOneOrder : AppProfile → History → Type 0
AreOneOrder a h =
    (b c : List ℕ) (p q : Pdu) → HasGet h b → HasGet h c → meaning a.exercise b ≡ Some p → meaning a.exercise c ≡ Some q
    → is_request_body p.body ≡ true → is_request_body q.body ≡ true → is_under_key q p ≡ true → IsSameOrder p q

-- one of the two: so the first request under a key that a log receives is the order that the application answers
abbrev pub IsClear : AppProfile → List OwnTurn → History → Type 0
IsClear a ts h = TakesAll ts ⊎ AreOneOrder a h

-- no answer that the log sends has a cause against it, after the events before it
abbrev pub AnswersHaveNoCause : AppProfile → History → Type 0
AnswersHaveNoCause a [] = Unit {0}
AnswersHaveNoCause a (Send s c ∷ log) =
    ((p : Pdu) → meaning a.exercise c ≡ Some p → is_answer_body p.body ≡ true → send_cause a.exercise a.station log p ≡ None) × AnswersHaveNoCause a log
AnswersHaveNoCause a (Get s b ∷ log) = AnswersHaveNoCause a log
AnswersHaveNoCause a (Tell s e y ∷ log) = AnswersHaveNoCause a log
