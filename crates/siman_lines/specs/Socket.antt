-- The datagrams that go through a socket, with the addresses of their other ends, and the effect of a call on them. A
-- socket specifies them in all states or in none.
use Rattle.std.specs.Prelude.{◌≡◌, ℕ, ◌≤◌, length, take, List, [], ◌∷◌, ◌++◌, Option, Some, None, ◌⊎◌}
use Rattle.std.specs.declared.io.ErrorKind.{ErrorKind}
use Rattle.std.specs.declared.net.socket_addr.SocketAddr.{SocketAddr}

-- a datagram, with the address that it goes to or comes from
pub record Addressed : Type 0 where
  pub address : SocketAddr
  pub bytes : List ℕ

-- a failed call: to which peer the datagram of a send was to go, and the system's reason
pub record Failure : Type 0 where
  pub peer : Option SocketAddr
  pub kind : ErrorKind

-- the list with so many more at its end, if it is specified
abbrev pub grown : {X : Type 0} → Option (List X) → List X → Option (List X)
grown None more = None
grown (Some xs) more = Some (xs ++ more)

-- a datagram was handed to a peer
abbrev pub Hands : Option (List Addressed) → Option (List Addressed) → List ℕ → SocketAddr → Type 0
Hands old new d peer = new ≡ grown old (record { address = peer; bytes = d } ∷ [])

-- a datagram was handed to a peer, or not
abbrev pub MayHand : Option (List Addressed) → Option (List Addressed) → List ℕ → SocketAddr → Type 0
MayHand old new d peer = Hands old new d peer ⊎ (new ≡ old)

-- a datagram came from this address, and the first n bytes of the buffer are it, cut to the buffer
pub record Comes (old new : Option (List Addressed)) (n : ℕ) (from : SocketAddr) (buffer : List ℕ) : Type 0 where
  pub within : n ≤ length buffer
  pub came : new ≡ grown old (record { address = from; bytes = take n buffer } ∷ [])

-- a call failed
abbrev pub Fails : Option (List Failure) → Option (List Failure) → Option SocketAddr → ErrorKind → Type 0
Fails old new peer kind = new ≡ grown old (record { peer = peer; kind = kind } ∷ [])

-- what sockets of a kind specify: the datagrams that were handed to them, those that came, and the failed calls
pub record Telling (S : Type 0) : Type 0 where
  pub handed : S → Option (List Addressed)
  pub came : S → Option (List Addressed)
  pub failed : S → Option (List Failure)
