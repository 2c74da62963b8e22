-- Recordings that add to another only sends of the datagrams that its logs lack (profile).
use Rattle.std.specs.Prelude.{◌≡◌, ℕ, List, Bool, false, ◌&&◌, ◌==◌, bytes_eq, slice_index_or}
use Rattle.std.specs.List.{list_any}
use Rattle.exercise_model.specs.Recording.{PlainRecording}
use Rattle.exercise_model.specs.History.{Event, Send, Get, Tell, log_of}
use Rattle.exercise_conflict.specs.declared.lacks.MissingSend.{MissingSend}
use Rattle.exercise_conflict.specs.Lacks.{missing_sends}
use Rattle.exercise_conflict.specs.Repair.{bytes_of, no_entry}
use Rattle.exercise_conflict.specs.Wider.{AddsTo}

-- an event is the send of these bytes by station t
abbrev pub same_send : ℕ → List ℕ → Event → Bool
same_send t b (Send s c) = (s == t) && bytes_eq b c
same_send t b (Get s c) = false
same_send t b (Tell s e y) = false

-- the datagram of entry i
unfoldable pub bytes_at : PlainRecording → ℕ → List ℕ
bytes_at r i = bytes_of (slice_index_or r.entries i no_entry)

-- an event is a given missing send
abbrev pub is_this_missing_send : PlainRecording → Event → MissingSend → Bool
is_this_missing_send r v lack = same_send lack.missing.sender (bytes_at r lack.entry) v

-- AN EVENT IS A MISSING SEND: a station sends a datagram that another one received, and whose send its log lacks
abbrev pub is_missing_send : PlainRecording → Event → Bool
is_missing_send r v = list_any (is_this_missing_send r v) (missing_sends r)

-- A RECORDING WITH MISSING SENDS: it adds to r only sends of datagrams by stations whose logs lack them in r, at any places and any number of times
pub record HasMissingSends (r wide : PlainRecording) : Type 0 where
  pub setting : wide.setting ≡ r.setting
  pub logs : (s : ℕ) → AddsTo (is_missing_send r) (log_of r s) (log_of wide s)
