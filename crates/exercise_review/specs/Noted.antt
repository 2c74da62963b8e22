-- The tables of a register (profile).
use Rattle.std.specs.Prelude.{ℕ, ◌≤◌, length, Option}
use Rattle.exercise_model.specs.Recording.{PlainRecording}
use Rattle.exercise_review.specs.declared.answer_receipts.AnswerReceipts.{AnswerReceipts}
use Rattle.exercise_review.specs.declared.answer_receipts.AnswerReceipts.TheVariants.{BySource, ByBytes}
use Rattle.exercise_review.specs.declared.register.EntryIndex.{EntryIndex}
use Rattle.exercise_review.specs.declared.entry_chains.EntryChains.{EntryChains}
use Rattle.exercise_review.specs.Heard.{IsReceiptIndex}
use Rattle.exercise_review.specs.Records.{AreRecords}
use Rattle.exercise_review.specs.Register.{key_at, AreRegistered, AreSeconds}
use Rattle.exercise_review.specs.Sourced.{AreWhole}

-- the index of the entries below n by their keys, and the number of entries of each station
pub record IsNoted (r : PlainRecording) (n : ℕ) (x : EntryIndex) : Type 0 where
  pub few : length x.orders.keys.keys ≤ n
  pub orders : AreRegistered (key_at r) n x.orders
  pub records : AreRecords r n x.records.items

-- the index of the receipts of answers
abbrev pub AreAnswerReceipts : PlainRecording → AnswerReceipts → Type 0
AreAnswerReceipts r (BySource sources) = AreWhole r sources
AreAnswerReceipts r (ByBytes heard) = IsReceiptIndex r (length r.entries) heard

-- THE TABLES OF A REGISTER: the index of all entries, the receipts of its answers, and the index by second keys
pub record IsRegister (r : PlainRecording) (noted : EntryIndex) (heard : AnswerReceipts) (second : Option EntryChains) : Type 0 where
  pub first : IsNoted r (length r.entries) noted
  pub hearing : AreAnswerReceipts r heard
  pub seconds : AreSeconds r second
