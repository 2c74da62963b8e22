-- THE CAPTURE OF A RECORDING: a file of pcapng with an interface for each station, and a packet for each datagram that one
-- sent or received (profile).
use Rattle.std.specs.Prelude.{ℕ, ◌-◌, Bool, true, false, List, [], ◌++◌, length, count_by}
use Rattle.std.specs.List.{flat_map}
use Rattle.exercise_model.specs.Station.{StationData}
use Rattle.exercise_model.specs.Entry.{Entry, Sent, Received, Told}
use Rattle.exercise_model.specs.Setting.{SettingData, station_in}
use Rattle.exercise_model.specs.Recording.{PlainRecording}
use Rattle.exercise_recording.specs.Captures.Datagram.{internet_text, source_of, target_of}
use Rattle.exercise_recording.specs.Captures.Blocks.{section_text, interface_text, packet_text}

-- the directions of a packet, as its interface saw it: in, and out
abbrev pub inbound : ℕ
inbound = 1

abbrev pub outbound : ℕ
outbound = 2

-- The packet of an entry: what a station sent goes from the station to the receiving address of the datagram; what it
-- received comes from the originating address to the station. A state that was told has none.
abbrev pub entry_packet : SettingData → Entry → List ℕ
entry_packet w (Sent s stamp b) = packet_text s stamp outbound (internet_text (station_in w s).address (target_of b) b)
entry_packet w (Received s stamp b) = packet_text s stamp inbound (internet_text (source_of b) (station_in w s).address b)
entry_packet w (Told s e y) = []

-- the interface of a station
abbrev pub station_interface : StationData → List ℕ
station_interface o = interface_text o.address

-- everything before the packets
abbrev pub capture_head : SettingData → List ℕ
capture_head w = section_text ++ flat_map station_interface w.stations

-- THE FILE
abbrev pub exported_text : PlainRecording → List ℕ
exported_text r = capture_head r.setting ++ flat_map (entry_packet r.setting) r.entries

-- ---- counts

abbrev pub is_told : Entry → Bool
is_told (Sent s stamp b) = false
is_told (Received s stamp b) = false
is_told (Told s e y) = true

-- the number of states told, which have no packet
abbrev pub told_count : PlainRecording → ℕ
told_count r = count_by is_told r.entries

-- the number of packets
abbrev pub packet_count : PlainRecording → ℕ
packet_count r = length r.entries - told_count r
