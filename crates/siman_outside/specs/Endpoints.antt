-- Endpoints of sockets, as words of a command line: IP:PORT (profile).
use Rattle.std.specs.Prelude.{ℕ, List, nat_le, ◌==◌, Option, Some, None, if◌then◌else◌}
use Rattle.byte_files.specs.Text.{cut_at, number_to, ◌>>=◌}
use Rattle.siman_outside.specs.declared.endpoint.Endpoint.{Endpoint}

-- one of the four numbers of an address, 0 to 255
abbrev pub byte_of : List ℕ → Option ℕ
byte_of word = do
  n ← number_to 65535 word
  if nat_le n 255 then Some n else None

-- `N.N.N.N`
abbrev pub ip_of : List ℕ → Option (ℕ × ℕ × ℕ × ℕ)
ip_of word = do
  p ← cut_at 46 word
  q ← cut_at 46 p.1
  r ← cut_at 46 q.1
  first ← byte_of p.0
  second ← byte_of q.0
  third ← byte_of r.0
  fourth ← byte_of r.1
  Some (first, second, third, fourth)

-- a port, 1 to 65535
abbrev pub port_of : List ℕ → Option ℕ
port_of word = do
  n ← number_to 65535 word
  if n == 0 then None else Some n

-- THE ENDPOINT that a word `IP:PORT` spells, with decimal numbers that may have leading zeros
abbrev pub endpoint_of : List ℕ → Option Endpoint
endpoint_of word = do
  p ← cut_at 58 word
  ip ← ip_of p.0
  port ← port_of p.1
  Some (record { ip = ip; port = port })
