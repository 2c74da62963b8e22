-- Words that say where a station, its socket and its peers are, up to the first that does not.
use Rattle.std.proofs.Common.{◌≡◌, Some, inl, inr, refl}
use Rattle.std.specs.Prelude.{Err}
use Rattle.dis_records.specs.declared.address.SiteApplication.{SiteApplication}
use Rattle.siman_scripts.specs.Statement.{address_of}
use Rattle.siman_outside.specs.Words.{StationAsked}
use Rattle.siman_outside.specs.declared.endpoint.Endpoint.{Endpoint}
use Rattle.siman_outside.specs.declared.fault.Fault.{Fault}
use Rattle.siman_outside.specs.Endpoints.{endpoint_of}
use Rattle.siman_exercise_commands.specs.Station.{FindsAddress, FindsEndpoint, FindsEndpoints, Places}

pub bad_address : (asked : StationAsked) (fault : Fault) → FindsAddress asked.address (Err fault) → Places asked (Err fault)
bad_address asked fault (none, tells) = inr (asked.address, rw none refl, tells)

pub bad_bind : (asked : StationAsked) (address : SiteApplication) (fault : Fault) → address_of asked.address ≡ Some address → FindsEndpoint asked.bind (Err fault)
    → Places asked (Err fault)
bad_bind asked address fault is (none, tells) = inr (asked.bind, rw (is, none) refl, tells)

pub bad_peers : (asked : StationAsked) (address : SiteApplication) (bind : Endpoint) (fault : Fault) → address_of asked.address ≡ Some address
    → endpoint_of asked.bind ≡ Some bind → FindsEndpoints asked.peers (Err fault) → Places asked (Err fault)
bad_peers asked address bind fault is there (inl memory) = inl memory
bad_peers asked address bind fault is there (inr (word, bad, tells)) = inr (word, rw (is, there) bad, tells)
