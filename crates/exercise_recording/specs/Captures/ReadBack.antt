-- What is read from the file of a recording's capture, where the interface of a name is asked for, or none is.
use Rattle.std.specs.Prelude.{ℕ, ◌+◌, ◌*◌, ◌^◌, ◌<◌, false, List, [], ◌∷◌, length, Option, Some, None}
use Rattle.dis_records.specs.declared.address.SiteApplication.{SiteApplication}
use Rattle.exercise_model.specs.Entry.{Entry, Sent, Received, Told}
use Rattle.exercise_model.specs.Setting.{SettingData, station_in}
use Rattle.exercise_model.specs.Recording.{PlainRecording}
use Rattle.packet_captures.specs.declared.byte_order.ByteOrder.TheVariants.{Little}
use Rattle.packet_captures.specs.declared.packet.Direction.{Direction}
use Rattle.packet_captures.specs.declared.packet.Direction.TheVariants.{Inbound, Outbound}
use Rattle.packet_captures.specs.declared.host.Host.{Host}
use Rattle.packet_captures.specs.declared.host.Host.TheVariants.{V4}
use Rattle.packet_captures.specs.Capture.{PlainCapture}
use Rattle.packet_captures.specs.Carried.{Contents, User}
use Rattle.packet_captures.specs.Interface.{is_wanted}
use Rattle.packet_captures.specs.Packet.{Packet}
use Rattle.exercise_recording.specs.Captures.Blocks.{name_text}
use Rattle.exercise_recording.specs.Captures.Datagram.{internet_text, source_of, target_of}
use Rattle.exercise_recording.specs.Captures.Export.{capture_head, entry_packet}

-- The packet of an entry of station s, at an offset of the file: its interface has the name of the station, its stamp is
-- the entry's, and it is there whole.
abbrev pub packet_of : (name : Option (List ℕ)) → SettingData → (at s stamp : ℕ) → Direction → (bytes : List ℕ) → Packet
packet_of name w at s stamp direction bytes = record {
  head = record {
    at = at;
    order = Little;
    link = 228;
    wanted = is_wanted name (Some (name_text (station_in w s).address));
    stamp = stamp;
    direction = direction;
    original = length bytes;
  };
  bytes = bytes;
}

-- the packets of entries, of which the first is at an offset: those sent go out, those received come in
abbrev pub packets_of : (name : Option (List ℕ)) → SettingData → (at : ℕ) → List Entry → List Packet
packets_of name w at [] = []
packets_of name w at (Sent s stamp b ∷ es) =
    packet_of name w at s stamp Outbound (internet_text (station_in w s).address (target_of b) b)
    ∷ packets_of name w (at + length (entry_packet w (Sent s stamp b))) es
packets_of name w at (Received s stamp b ∷ es) =
    packet_of name w at s stamp Inbound (internet_text (source_of b) (station_in w s).address b)
    ∷ packets_of name w (at + length (entry_packet w (Received s stamp b))) es
packets_of name w at (Told s e y ∷ es) = packets_of name w at es

-- THE CAPTURE THAT IS READ: it ends whole, and no packet was lost
abbrev pub exported_capture : (name : Option (List ℕ)) → PlainRecording → PlainCapture
exported_capture name r = record { packets = packets_of name r.setting (length (capture_head r.setting)) r.entries; lost = 0; fault = None }

-- ---- what a packet carries

-- an address of two numbers of 16 bits
pub record FitsAddress (a : SiteApplication) : Type 0 where
  pub site : a.site < 2 ^ 16
  pub application : a.application < 2 ^ 16

-- the IPv4 address of an address: the upper 16 bits are the site, the lower the application
abbrev pub host_of : SiteApplication → Host
host_of a = V4 (a.site * 65536 + a.application)

-- the UDP datagram of these bytes, wholly there, from port 3000 of an address to port 3000 of another
abbrev pub carried_datagram : (source target : SiteApplication) → (bytes : List ℕ) → Contents
carried_datagram source target bytes = User (record {
  addresses = record { source = host_of source; target = host_of target; to_group = false };
  source_port = Some 3000;
  target_port = Some 3000;
  size = Some (length bytes);
  bytes = bytes;
})
