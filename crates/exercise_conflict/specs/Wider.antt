-- Recordings that contain another one, and more (profile).
use Rattle.std.specs.Prelude.{◌≡◌, ◌⊎◌, ℕ, [], ◌∷◌, Bool, true, false, not}
use Rattle.std.specs.Option.{option_map_or}
use Rattle.exercise_model.specs.Recording.{PlainRecording}
use Rattle.exercise_model.specs.History.{Event, Send, Get, Tell, History, log_of}
use Rattle.exercise_model.specs.Meaning.{meaning}
use Rattle.exercise_model.specs.Change.{able, responds}

-- k is the history h with further events at any places, each of which passes; the events of h remain in their order
abbrev pub AddsTo : (Event → Bool) → History → History → Type 0
AddsTo may h [] = h ≡ []
AddsTo may h (v ∷ k) = ((may v ≡ true) × AddsTo may h k) ⊎ ((g : History) × (h ≡ v ∷ g) × AddsTo may g k)

-- any event at all
abbrev pub anything : Event → Bool
anything v = true

-- a station sends a datagram that is no Able Acknowledge
abbrev pub sends_no_able : ℕ → Event → Bool
sends_no_able x (Send s b) = not (option_map_or (responds able) (meaning x b) false)
sends_no_able x (Get s b) = false
sends_no_able x (Tell s e y) = false

-- A WIDER RECORDING has an equal setting, and each log of r is part of its log of that station, in order
pub record IsWider (r wide : PlainRecording) : Type 0 where
  pub setting : wide.setting ≡ r.setting
  pub logs : (s : ℕ) → AddsTo anything (log_of r s) (log_of wide s)

-- A RECORDING WITH FURTHER SENDS: it adds to r only sends of datagrams, none of them an Able
pub record HasFurtherSends (r wide : PlainRecording) : Type 0 where
  pub setting : wide.setting ≡ r.setting
  pub logs : (s : ℕ) → AddsTo (sends_no_able r.setting.exercise) (log_of r s) (log_of wide s)
