-- The account of a recording, read from each station's log alone.
use Rattle.std.specs.Prelude.{◌≡◌, ℕ, List, [], Option, None, slice_index_or}
use Rattle.dis_records.specs.declared.entity_state.EntityState.{EntityState}
use Rattle.exercise_model.specs.Recording.{PlainRecording}
use Rattle.exercise_model.specs.Account.{pair_of, change_behind, others_of, states_of}

-- for each station, by rising indices, its entities that are not Absent at the end, by rising numbers, with their states; for each
-- entry the entry of the request that it takes up, and of the change behind it; and the number of "other" datagrams
pub record AccountData : Type 0 where
  pub states : List (List (ℕ × EntityState))
  pub pairs : List (Option ℕ)
  pub causes : List (Option ℕ)
  pub others : ℕ

-- THE ACCOUNT OF A RECORDING: the pairs, the changes behind Ables, the states at the end and the number of "other" datagrams are those of the model
pub record IsAccount (r : PlainRecording) (c : AccountData) : Type 0 where
  pub states : (s : ℕ) → slice_index_or c.states s [] ≡ states_of r s
  pub pairs : (i : ℕ) → slice_index_or c.pairs i None ≡ pair_of r i
  pub causes : (i : ℕ) → slice_index_or c.causes i None ≡ change_behind r i
  pub others : c.others ≡ others_of r
