-- A packet of a capture.
use Rattle.std.specs.Prelude.{ℕ, List, ◌==◌, if◌then◌else◌}
use Rattle.packet_captures.specs.declared.packet.PacketHead.{PacketHead}
use Rattle.packet_captures.specs.declared.packet.Direction.{Direction}
use Rattle.packet_captures.specs.declared.packet.Direction.TheVariants.{Unknown, Inbound, Outbound}

-- what the capture says of it, and the bytes that it kept
pub record Packet : Type 0 where
  pub head : PacketHead
  pub bytes : List ℕ

-- bits 0 and 1 of a packet's flags
abbrev pub direction_from : ℕ → Direction
direction_from n = if n == 1 then Inbound else (if n == 2 then Outbound else Unknown)
