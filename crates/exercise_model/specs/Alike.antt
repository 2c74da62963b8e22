-- The account of a recording holds in every run that explains it (profile).
use Rattle.std.specs.Prelude.{◌≡◌, ℕ, Some}
use Rattle.exercise_model.specs.Recording.{PlainRecording}
use Rattle.exercise_model.specs.History.{Event, Send, History, station_of, log_at, station_at}
use Rattle.exercise_model.specs.State.{entities_after}
use Rattle.exercise_model.specs.Place.{log_before, own_event}
use Rattle.exercise_model.specs.Run.{Explains, Contains, Represents}
use Rattle.exercise_model.specs.Account.{pair_of, entities_of}
use Rattle.exercise_model.specs.Pairing.{IsTakenUp, SendsAnswer}

-- the event v of entry i has exactly one place in the history h: before it, its station did what its log holds before
-- the entry
pub record HasPlace (r : PlainRecording) (h : History) (i : ℕ) (v : Event) : Type 0 where
  pub before : History
  pub within : Contains h before v
  pub stands : Represents r i before v
  pub log : log_at (station_of v) before ≡ log_before r (station_of v) i
  pub only : (place : History) → Contains h place v → Represents r i place v → place ≡ before

-- entry i sends an answer, which has its place in the history h, and entry j is the request that it takes up there
pub record IsPairIn (r : PlainRecording) (h : History) (i j : ℕ) : Type 0 where
  pub answer : SendsAnswer r i
  pub place : HasPlace r h i (Send answer.station answer.bytes)
  pub taken : IsTakenUp r place.before answer.station answer.pdu j

-- THE ACCOUNT HOLDS IN A RUN
pub record IsAsSaid (r : PlainRecording) (h : History) : Type 0 where
  -- each entry has its place
  pub places : (i : ℕ) (v : Event) → own_event r (station_of v) i ≡ Some v → HasPlace r h i v
  -- each entry that sends an answer has a pair, the request that it takes up in the run; and no other entry has a
  -- pair
  pub pairs : (i : ℕ) → SendsAnswer r i → (j : ℕ) × (pair_of r i ≡ Some j) × IsPairIn r h i j
  pub no_others : (i j : ℕ) → pair_of r i ≡ Some j → IsPairIn r h i j
  -- the entities of each station at its end are those after the log of the station
  pub entities : (s : ℕ) → entities_of r s ≡ entities_after r.setting.exercise (station_at r s) (log_at s h)

-- THE ACCOUNT HOLDS IN EVERY RUN that explains the recording: these runs have equal pairs, and equal states at the
-- end
abbrev pub IsAlwaysAsSaid : PlainRecording → Type 0
IsAlwaysAsSaid r = (h : History) → Explains r h → IsAsSaid r h
