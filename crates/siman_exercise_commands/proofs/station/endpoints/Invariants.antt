-- What the words that are left say is to be found; those before them say where sockets are.
use Rattle.std.proofs.Common.{◌≡◌, ◌++◌, map, length}
use Rattle.std.specs.Prelude.{Some}
use Rattle.siman_outside.specs.Endpoints.{endpoint_of}
use Rattle.siman_exercise_commands.specs.Station.{bad_endpoint}
use Rattle.siman_exercise_commands.proofs.station.endpoints.Given as goal

abbrev pub invariant-loop-others : goal.invariant-loop-others
invariant-loop-others l =
    (bad_endpoint (map (λ word. word.now) l.others) ≡ bad_endpoint (map (λ word. word.now) l.words))
    × (map endpoint_of (map (λ word. word.now) l.words) ≡ map Some l.endpoints.items ++ map endpoint_of (map (λ word. word.now) l.others))

abbrev pub decreases-loop-others : goal.decreases-loop-others
decreases-loop-others l = length l.others
