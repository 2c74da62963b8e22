-- What comes back of the log of a station that is written as a capture and imported again (profile).
use Rattle.std.specs.Prelude.{◌≡◌, ◌≤◌, ◌+◌, ℕ, false, Bool, ◌==◌, ◌&&◌, List, [], ◌∷◌, ◌++◌, length, slice_get, Ok, ⊤, if◌then◌else◌}
use Rattle.std.specs.List.{flat_map}
use Rattle.byte_files.specs.Fields.{IsBytes}
use Rattle.dis_records.specs.declared.address.SiteApplication.{SiteApplication}
use Rattle.exercise_model.specs.Entry.{Entry, Sent, Received, Told}
use Rattle.exercise_model.specs.Recording.{PlainRecording}
use Rattle.exercise_model.specs.Station.{StationData}
use Rattle.packet_captures.specs.Capture.{PlainCapture}
use Rattle.exercise_recording.specs.Text.{entry_text}
use Rattle.exercise_recording.specs.declared.captures.packet_rule.PacketRule.{PacketRule}
use Rattle.exercise_recording.specs.Captures.Entries.{recording_with}
use Rattle.exercise_recording.specs.Captures.Import.{ImportData, head_of, import_of}
use Rattle.exercise_recording.specs.Captures.Kind.{is_number}
use Rattle.exercise_recording.specs.Captures.ReadBack.{host_of}

-- The rule of `import` for the station at this address of an exported capture: its host is the IPv4 address that stands
-- for it there, the port is 3000, no other station sends from that host, and it does not hear what it sends.
pub record IsRuleFor (a : SiteApplication) (rule : PacketRule) : Type 0 where
  pub host : rule.host ≡ host_of a
  pub port : rule.port ≡ 3000
  pub alone : rule.is_shared ≡ false
  pub deaf : rule.hears_itself ≡ false

-- The numbers of a datagram are bytes, if the entry has one.
abbrev pub HasBytes : Entry → Type 0
HasBytes (Sent s stamp b) = IsBytes b
HasBytes (Received s stamp b) = IsBytes b
HasBytes (Told s e y) = ⊤

-- a datagram of Simulation Management in this exercise: its fourth byte, the protocol family, is 5, its second is the
-- exercise (IEEE 1278.1-2012, 6.2.66)
abbrev pub is_managing : (exercise : ℕ) → List ℕ → Bool
is_managing exercise b = is_number 5 (slice_get b 3) && is_number exercise (slice_get b 1)

-- THE ENTRIES THAT COME BACK of the station at an index, in a recording of it alone, where its index is 0: all that it
-- sent and received of Simulation Management in the exercise, in their order, and none else
abbrev pub entries_back : (exercise s : ℕ) → List Entry → List Entry
entries_back exercise s [] = []
entries_back exercise s (Sent t stamp b ∷ es) = (if (t == s) && is_managing exercise b then Sent 0 stamp b ∷ [] else []) ++ entries_back exercise s es
entries_back exercise s (Received t stamp b ∷ es) =
    (if (t == s) && is_managing exercise b then Received 0 stamp b ∷ [] else []) ++ entries_back exercise s es
entries_back exercise s (Told t e y ∷ es) = entries_back exercise s es

-- the recording that comes back of the station at an index
abbrev pub recording_back : PacketRule → StationData → (s : ℕ) → PlainRecording → PlainRecording
recording_back rule station s r = recording_with rule.exercise station (entries_back rule.exercise s r.entries)

-- head and entries of that recording have at most `room` bytes
abbrev pub HasRoom : PacketRule → StationData → (s : ℕ) → PlainRecording → (room : ℕ) → Type 0
HasRoom rule station s r room = length (head_of rule station) + length (flat_map entry_text (entries_back rule.exercise s r.entries)) ≤ room

-- THE LOG COMES BACK from a capture: what is imported of it is that recording, and where there is room, it is imported
pub record ComesBack (rule : PacketRule) (room : ℕ) (station : StationData) (s : ℕ) (r : PlainRecording) (c : PlainCapture) : Type 0 where
  pub recording : (i : ImportData) → import_of rule room station c ≡ Ok i → (i.recording ≡ recording_back rule station s r) × (i.dropped ≡ 0)
  pub whole : HasRoom rule station s r room → (i : ImportData) × (import_of rule room station c ≡ Ok i)
