-- The state of an entity at a place of its station's log (profile, over IEEE 1278.1-2012, 5.6.5).
use Rattle.std.specs.Prelude.{ℕ, List}
use Rattle.dis_records.specs.declared.entity_state.EntityState.{EntityState}
use Rattle.exercise_model.specs.Recording.{PlainRecording}
use Rattle.exercise_model.specs.History.{station_at}
use Rattle.exercise_model.specs.State.{state_after, entities_after}
use Rattle.exercise_model.specs.Place.{log_before}

-- the state of entity e of station s before entry n
abbrev pub state_before : PlainRecording → ℕ → ℕ → ℕ → EntityState
state_before r s e n = state_after r.setting.exercise (station_at r s) (log_before r s n) e

-- THE ENTITIES of station s that are not Absent before entry n, by rising numbers, with their states
abbrev pub entities_before : PlainRecording → ℕ → ℕ → List (ℕ × EntityState)
entities_before r s n = entities_after r.setting.exercise (station_at r s) (log_before r s n)

-- a place in a recording: before entry `index`
pub record PlaceBefore : Type 0 where
  pub recording : PlainRecording
  pub index : ℕ
