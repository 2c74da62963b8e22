-- What a frame carries, as a value that does not depend on where its bytes lie.
use Rattle.std.specs.Prelude.{ℕ, Bool, List, Option, None, if◌then◌else◌}
use Rattle.packet_captures.specs.declared.carried.Addresses.{Addresses}
use Rattle.packet_captures.specs.declared.carried.Carried.{Carried}
use Rattle.packet_captures.specs.declared.carried.Carried.TheVariants as carried
use Rattle.packet_captures.specs.declared.fragment.Fragment.{Fragment}
use Rattle.packet_captures.specs.declared.user_datagram.Datagram.{Datagram}

-- A UDP datagram (RFC 768), as far as it is there: its ports, its number of bytes of data, and the bytes of data
-- that are there, from the first on.
pub record PlainDatagram : Type 0 where
  pub addresses : Addresses
  pub source_port : Option ℕ
  pub target_port : Option ℕ
  pub size : Option ℕ
  pub bytes : List ℕ

-- A fragment of a UDP datagram: its place there in bytes, whether more follow, its number of bytes, and the bytes
-- that are there, from the first on (RFC 791, 3.2; RFC 8200, 4.5).
pub record PlainFragment : Type 0 where
  pub addresses : Addresses
  pub identification : ℕ
  pub offset : ℕ
  pub more : Bool
  pub size : ℕ
  pub bytes : List ℕ

-- Other: no UDP datagram and no fragment of one, or a malformed one. Unsettled: the bytes that are there do not say
-- which, but perhaps from where to where it goes. User: a UDP datagram. Part: a fragment of one.
pub data Contents : Type 0 where
  Other : Contents
  Unsettled : Option Addresses → Contents
  User : PlainDatagram → Contents
  Part : PlainFragment → Contents

-- where a header ends too early, nothing is carried; if the capture cut the frame, that is not settled
abbrev pub ended : Bool → Contents
ended cut = if cut then Unsettled None else Other

-- values of borrowed datagrams and fragments
abbrev pub plain_datagram : Datagram → PlainDatagram
plain_datagram d = record { addresses = d.addresses; source_port = d.source_port; target_port = d.target_port; size = d.size; bytes = d.bytes.now }

abbrev pub plain_fragment : Fragment → PlainFragment
plain_fragment f = record { addresses = f.addresses; identification = f.identification; offset = f.offset; more = f.more; size = f.size; bytes = f.bytes.now }

abbrev pub shown : Carried → Contents
shown carried.Other = Other
shown (carried.Unsettled addresses) = Unsettled addresses
shown (carried.Datagram d) = User (plain_datagram d)
shown (carried.Fragment f) = Part (plain_fragment f)
