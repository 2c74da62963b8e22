-- What a socket in memory specifies.
use Rattle.std.specs.Prelude.{ℕ, List, map, Option}
use Rattle.std.specs.declared.io.ErrorKind.{ErrorKind}
use Rattle.std.specs.declared.net.socket_addr.SocketAddr.{SocketAddr}
use Rattle.siman_lines.specs.Socket.{Addressed, Failure}
use Rattle.siman_trials.specs.declared.memory_socket.AddressedDatagram.{AddressedDatagram}

-- the datagrams, with their addresses
abbrev pub addressed_of : List AddressedDatagram → List Addressed
addressed_of ds = map (λ d. record { address = d.address; bytes = d.bytes.items }) ds

-- the failed calls
abbrev pub failures_of : List (Option SocketAddr × ErrorKind) → List Failure
failures_of fs = map (λ f. record { peer = f.0; kind = f.1 }) fs
