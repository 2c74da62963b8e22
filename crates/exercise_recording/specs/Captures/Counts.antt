-- Numbers of packets of a capture (profile).
use Rattle.std.specs.Prelude.{ℕ, ◌+◌, ◌-◌, ◌^◌, min, Bool, if◌then◌else◌}
use Rattle.exercise_recording.specs.declared.captures.packet_counts.PacketCounts.{PacketCounts}
use Rattle.exercise_recording.specs.declared.captures.packet_kind.PacketKind.{PacketKind}
use Rattle.exercise_recording.specs.declared.captures.packet_kind.PacketKind.TheVariants.{Other, Fragment, Elsewhere, Passing, Cut, Shared, Sent, SentAndHeard, Received}

-- no packet yet
abbrev pub no_counts : PacketCounts
no_counts = record {
  packets = 0;
  sent = 0;
  received = 0;
  other = 0;
  elsewhere = 0;
  passing = 0;
  shared = 0;
  fragments = 0;
  cut = 0;
  echoes = 0;
  bundled = 0;
}

-- one more, of which no more than 64 bits hold
abbrev pub next : ℕ → ℕ
next n = min (n + 1) (2 ^ 64 - 1)

-- one more, if this holds
abbrev pub next_if : Bool → ℕ → ℕ
next_if b n = if b then next n else n

-- one more of a kind
abbrev pub with_kind : PacketKind → PacketCounts → PacketCounts
with_kind Other c = record c { other = next c.other }
with_kind Fragment c = record c { fragments = next c.fragments }
with_kind Elsewhere c = record c { elsewhere = next c.elsewhere }
with_kind Passing c = record c { passing = next c.passing }
with_kind Cut c = record c { cut = next c.cut }
with_kind Shared c = record c { shared = next c.shared }
with_kind Sent c = record c { sent = next c.sent }
with_kind SentAndHeard c = record c { sent = next c.sent; echoes = next c.echoes }
with_kind Received c = record c { received = next c.received }

-- THE COUNTS with one more packet of a kind, which is bundled or not
unfoldable pub counted : PacketKind → (bundled : Bool) → PacketCounts → PacketCounts
counted kind bundled c = with_kind kind (record c { packets = next c.packets; bundled = next_if bundled c.bundled })
