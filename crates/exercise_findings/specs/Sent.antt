-- The PDU that an event sends, and whether an entry sends or receives one.
use Rattle.std.specs.Prelude.{◌≡◌, ℕ, List, Bool, Option, Some, None, is_some, option_and_then, slice_get}
use Rattle.siman_pdus.specs.declared.pdu.Pdu.{Pdu}
use Rattle.exercise_model.specs.Entry.{Sent, Received}
use Rattle.exercise_model.specs.Recording.{PlainRecording}
use Rattle.exercise_model.specs.History.{Event, Send, Get, Tell, event_of}
use Rattle.exercise_model.specs.Meaning.{meaning}

-- the PDU that an event sends in exercise x, if it sends one that is not "other"
abbrev pub meant_by_send : ℕ → Event → Option Pdu
meant_by_send x (Send s b) = meaning x b
meant_by_send x (Get s b) = None
meant_by_send x (Tell s e y) = None

-- the PDU that an event sends or receives in exercise x, if it is not "other"
abbrev pub meant_by : ℕ → Event → Option Pdu
meant_by x (Send s b) = meaning x b
meant_by x (Get s b) = meaning x b
meant_by x (Tell s e y) = None

-- entry i sends or receives a datagram that is not "other"
unfoldable pub is_meant : PlainRecording → ℕ → Bool
is_meant r i = is_some (option_and_then (λ e. meant_by r.setting.exercise (event_of e)) (slice_get r.entries i))

-- by entry j, station s sends (or receives) a datagram of these bytes
abbrev pub Sends : PlainRecording → ℕ → ℕ → List ℕ → Type 0
Sends r j s b = (stamp : ℕ) × (slice_get r.entries j ≡ Some (Sent s stamp b))

abbrev pub Receives : PlainRecording → ℕ → ℕ → List ℕ → Type 0
Receives r j s b = (stamp : ℕ) × (slice_get r.entries j ≡ Some (Received s stamp b))
