-- The change that made the state of an entity at a place (profile, over IEEE 1278.1-2012, 5.6.5).
use Rattle.std.specs.Prelude.{◌≡◌, ◌≢◌, ◌<◌, ◌≤◌, ℕ, zero, suc, Option, Some, None, if◌then◌else◌}
use Rattle.exercise_model.specs.declared.state.Change.{Change}
use Rattle.exercise_model.specs.Recording.{PlainRecording}
use Rattle.exercise_model.specs.Cause.{same_state}
use Rattle.exercise_model.specs.Account.{change_at}
use Rattle.exercise_findings.specs.State.{state_before}

-- THE CHANGE THAT MADE A STATE: the last entry before entry n that altered the state of entity e of station s; none if the entity still has its initial state
unfoldable pub last_change_entry : PlainRecording → ℕ → ℕ → ℕ → Option ℕ
last_change_entry r s e zero = None
last_change_entry r s e (suc n) = if same_state (state_before r s e n) (state_before r s e (suc n)) then last_change_entry r s e n else Some n

-- the entity had one state from the place before entry `from` to that before entry n
abbrev pub HasOneState : PlainRecording → ℕ → ℕ → ℕ → ℕ → Type 0
HasOneState r s e from n = (m : ℕ) → from ≤ m → m ≤ n → state_before r s e m ≡ state_before r s e n

-- entry k made the state that the entity has before entry n: it is a change that altered the state, and no later one altered it again
pub record Made (r : PlainRecording) (s e n k : ℕ) : Type 0 where
  pub earlier : k < n
  pub change : Change
  pub is : change_at r k ≡ Some change
  pub other : state_before r s e k ≢ state_before r s e (suc k)
  pub since : HasOneState r s e (suc k) n
