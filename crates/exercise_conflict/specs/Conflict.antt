-- The meaning of an entry's contradiction in terms of the logs, a record for each cause (profile).
use Rattle.std.specs.Prelude.{◌≡◌, ◌≢◌, ℕ, List, Option, Some, None, slice_get}
use Rattle.dis_records.specs.declared.entity.EntityId.{EntityId}
use Rattle.dis_records.specs.declared.entity_state.EntityState.{EntityState}
use Rattle.siman_pdus.specs.declared.pdu.Pdu.{Pdu}
use Rattle.exercise_model.specs.declared.cause.Cause.TheVariants.{ReusedIdentifier, WrongAnswer, ChangedAnswer}
use Rattle.exercise_model.specs.Entry.{Received, Told}
use Rattle.exercise_model.specs.Recording.{PlainRecording}
use Rattle.exercise_model.specs.Meaning.{meaning}
use Rattle.exercise_model.specs.Account.{sender_of}
use Rattle.exercise_findings.specs.State.{state_before}
use Rattle.exercise_conflict.specs.declared.field.PduField.{PduField}
use Rattle.exercise_conflict.specs.declared.clash.Clash.TheVariants as clashes
use Rattle.exercise_conflict.specs.declared.clash.AnswerMismatch.{AnswerMismatch}
use Rattle.exercise_conflict.specs.Clash.{clash_of}
use Rattle.exercise_conflict.specs.Earlier.{Contradicts, ContradictsAnswer}
use Rattle.exercise_conflict.specs.Needed.{HasSend}
use Rattle.exercise_conflict.specs.Since.{HasOneState, Made}

-- this entry made the state that entity n of station s has before entry j, or no entry did since the start
abbrev pub IsMadeBy : PlainRecording → ℕ → ℕ → ℕ → Option ℕ → Type 0
IsMadeBy r s n j (Some k) = Made r s n j k
IsMadeBy r s n j None = HasOneState r s n 0 j

-- A REUSED IDENTIFIER: a different request was sent under it earlier, and after that alone the entry has its cause
pub record ClashesByOrder (r : PlainRecording) (j : ℕ) : Type 0 where
  pub earlier : ℕ
  pub field : PduField
  pub told : clash_of r j ≡ Some (clashes.ReusedIdentifier earlier field)
  pub conflict : Contradicts r j earlier ReusedIdentifier

-- A WRONG ANSWER: after the request that it takes up alone the entry has its cause
pub record ClashesByAnswer (r : PlainRecording) (j : ℕ) : Type 0 where
  pub earlier : ℕ
  pub why : AnswerMismatch
  pub told : clash_of r j ≡ Some (clashes.WrongAnswer earlier why)
  pub conflict : Contradicts r j earlier WrongAnswer

-- A CHANGED ANSWER: after the opposite one and the request alone the entry has its cause
pub record ClashesByOpposite (r : PlainRecording) (j : ℕ) : Type 0 where
  pub earlier : ℕ
  pub told : clash_of r j ≡ Some (clashes.ChangedAnswer earlier)
  pub conflict : ContradictsAnswer r j earlier ChangedAnswer

-- AN IMPOSSIBLE CHANGE: if one entity is meant, it has the reported state, and the reported change made that
pub record ClashesByChange (r : PlainRecording) (j : ℕ) : Type 0 where
  pub earlier : ℕ
  pub station : ℕ
  pub entity : ℕ
  pub state : Option EntityState
  pub change : Option ℕ
  pub told : clash_of r j ≡ Some (clashes.Impossible earlier station entity state change)
  pub has : (y : EntityState) → state ≡ Some y → (state_before r station entity j ≡ y) × IsMadeBy r station entity j change

-- A WRONG STATE: the entity's state differs from the told one, and the reported change made it
pub record ClashesByState (r : PlainRecording) (j : ℕ) : Type 0 where
  pub station : ℕ
  pub entity : ℕ
  pub said : EntityState
  pub tells : slice_get r.entries j ≡ Some (Told station entity said)
  pub state : EntityState
  pub change : Option ℕ
  pub told : clash_of r j ≡ Some (clashes.WrongState station entity state change)
  pub has : state_before r station entity j ≡ state
  pub other : said ≢ state
  pub made : IsMadeBy r station entity j change

-- A DATAGRAM NEVER SENT: if no source is reported, the log of the sender has no send of it
pub record ClashesBySend (r : PlainRecording) (j : ℕ) : Type 0 where
  pub station : ℕ
  pub stamp : ℕ
  pub bytes : List ℕ
  pub pdu : Pdu
  pub got : slice_get r.entries j ≡ Some (Received station stamp bytes)
  pub meant : meaning r.setting.exercise bytes ≡ Some pdu
  pub from : EntityId
  pub sent : Option ℕ
  pub near : Option ℕ
  pub differs : Option PduField
  pub told : clash_of r j ≡ Some (clashes.NeverSent from sent near differs)
  pub lacks : sent ≡ None → (t : ℕ) → sender_of r pdu ≡ Some t → HasSend r t bytes → ⊥
