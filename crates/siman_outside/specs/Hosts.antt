-- Addresses of hosts, as words of a command line (profile).
use Rattle.std.specs.Prelude.{◌≡◌, ℕ, ◌/◌, ◌%◌, List, Option, Some, None}
use Rattle.std.specs.Net.Addr.{ipv4_bits, ipv6_bits}
use Rattle.std.specs.Net.Grammar.{IsIpText}
use Rattle.std.specs.declared.net.ip_addr.IpAddr.{IpAddr}
use Rattle.std.specs.declared.net.ip_addr.IpAddr.TheVariants as addresses
use Rattle.packet_captures.specs.declared.host.Host.{Host}
use Rattle.packet_captures.specs.declared.host.Host.TheVariants.{V4, V6}
use Rattle.packet_captures.specs.Host.{unmapped}

-- the host of an address; of an IPv4-mapped one the host of its IPv4 address
abbrev pub host_by : IpAddr → Host
host_by (addresses.V4 a) = V4 (ipv4_bits a)
host_by (addresses.V6 a) = unmapped (V6 (ipv6_bits a / 0x1_0000_0000_0000_0000) (ipv6_bits a % 0x1_0000_0000_0000_0000))

-- THE HOST THAT A WORD NAMES: the address of IPv4 or IPv6 that it spells, without a zone; or none where it spells none
abbrev pub NamesHost : (word : List ℕ) → Option Host → Type 0
NamesHost word (Some host) = (address : IpAddr) × IsIpText word address × (host ≡ host_by address)
NamesHost word None = (address : IpAddr) → ¬ (IsIpText word address)
