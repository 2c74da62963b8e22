-- Equality of addresses, as the program computes it.
use Rattle.std.proofs.Common.{◌≡◌, List, [], ◌∷◌, refl}
use Rattle.std.specs.List.{list_any}
use Rattle.std.specs.declared.net.socket_addr.SocketAddr.{SocketAddr}
use Rattle.std.specs.declared.net.socket_addr.SocketAddr.TheVariants.{V4, V6}
use Rattle.std.specs.contracts.net.socket_addr.SocketAddrPartialEq as eqs
use Rattle.siman_lines.specs.Udp.{same_address, is_peer}

pub same : (a b : SocketAddr) → eqs.TheImpl.ghosts.eq a b ≡ same_address a b
same (V4 a) (V4 b) = refl
same (V4 a) (V6 b) = refl
same (V6 a) (V4 b) = refl
same (V6 a) (V6 b) = refl

-- the list contains the address
pub peer_is : (peers : List SocketAddr) (from : SocketAddr) → list_any (λ y. eqs.TheImpl.ghosts.eq y from) peers ≡ is_peer peers from
peer_is [] from = refl
peer_is (p ∷ ps) from = rw (same p from, peer_is ps from)
