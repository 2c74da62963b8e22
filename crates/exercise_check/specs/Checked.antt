-- The account after a yes: requests of answers, and changes of other stations.
use Rattle.std.specs.Prelude.{◌≡◌, ℕ, Some, None, slice_index_or}
use Rattle.exercise_model.specs.Recording.{PlainRecording}
use Rattle.exercise_model.specs.History.{History}
use Rattle.exercise_model.specs.Pairing.{SendsAnswer, ReceivesAble}
use Rattle.exercise_model.specs.Knowledge.{IsKnownAt}
use Rattle.exercise_model.specs.Alike.{IsPairIn}
use Rattle.exercise_findings.specs.Account.{AccountData}

-- KNOWLEDGE AFTER A YES, in the run h: for each entry that receives an Able from a recorded station the account has
-- the change behind it, known at that place of the run as `IsKnown` says; and every entry with a change in the
-- account is one of these
pub record HasKnowledge (r : PlainRecording) (h : History) (c : AccountData) : Type 0 where
  pub each : (i : ℕ) → ReceivesAble r i → (j : ℕ) × (slice_index_or c.causes i None ≡ Some j) × IsKnownAt r h i j
  pub told : (i j : ℕ) → slice_index_or c.causes i None ≡ Some j → IsKnownAt r h i j

-- ANSWERS AFTER A YES, in the run h: for each entry that sends an answer the account has its pair, the request that
-- the answer takes up at its place in the run; and every entry with a pair in the account is one of these
pub record HasPairs (r : PlainRecording) (h : History) (c : AccountData) : Type 0 where
  pub each : (i : ℕ) → SendsAnswer r i → (j : ℕ) × (slice_index_or c.pairs i None ≡ Some j) × IsPairIn r h i j
  pub told : (i j : ℕ) → slice_index_or c.pairs i None ≡ Some j → IsPairIn r h i j
