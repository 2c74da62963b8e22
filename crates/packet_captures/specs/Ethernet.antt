-- Ethernet frames (IEEE 802.3), EtherTypes and 802.1Q tags.
use Rattle.std.specs.Prelude.{ℕ, ◌%◌, Bool, ◌==◌, ◌||◌, nat_lt, List, [], ◌∷◌, length, drop, Option, Some, None, if◌then◌else◌}
use Rattle.std.specs.Int.{w8, w16}
use Rattle.packet_captures.specs.NetworkOrder.{number_at}
use Rattle.packet_captures.specs.Carried.{Contents, Other, ended}
use Rattle.packet_captures.specs.Internet4.{internet_4}
use Rattle.packet_captures.specs.Internet6.{internet_6}

-- the EtherType of a tag (IEEE 802.1Q): of a customer, of a service provider, or of old ones
abbrev pub is_tag : ℕ → Bool
is_tag kind = (kind == 0x8100) || ((kind == 0x88A8) || (kind == 0x9100))

-- The EtherType behind the tags and what stands behind it, where b stands behind the EtherType `kind`: behind that of
-- a tag stand two bytes of control information and the next EtherType. None if a tag ends too early.
unfoldable pub untagged : ℕ → List ℕ → Option (ℕ × List ℕ)
untagged kind (x ∷ y ∷ z ∷ w ∷ b) = if is_tag kind then untagged (number_at w16 0 (z ∷ w ∷ [])) b else Some (kind, x ∷ y ∷ z ∷ w ∷ b)
untagged kind b = if is_tag kind then None else Some (kind, b)

-- what stands behind an EtherType that is no tag's: IPv4 (RFC 894) or IPv6 (RFC 2464) is read
abbrev pub behind_type : Bool → Bool → Option (ℕ × List ℕ) → Contents
behind_type to_group cut None = ended cut
behind_type to_group cut (Some p) =
    if p.0 == 0x0800 then internet_4 to_group cut p.1
    else (if p.0 == 0x86DD then internet_6 to_group cut p.1
    else Other)

-- what stands behind an EtherType, after any tags
abbrev pub typed : Bool → Bool → ℕ → List ℕ → Contents
typed to_group cut kind b = behind_type to_group cut (untagged kind b)

-- A frame: target in bytes 0 to 5, source in 6 to 11, EtherType, or a length below 0x0600, in 12 and 13. A target whose
-- first byte is odd is a group address (IEEE 802, 8.2), broadcast among them.
abbrev pub ethernet : Bool → List ℕ → Contents
ethernet cut b =
    if nat_lt (length b) 14 then ended cut
    else typed (number_at w8 0 b % 2 == 1) cut (number_at w16 12 b) (drop 14 b)
