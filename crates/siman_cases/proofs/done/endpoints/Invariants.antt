-- The peers so far.
use Rattle.std.proofs.Common.{◌≡◌, take}
use Rattle.siman_cases.specs.Done.{endpoints_of}
use Rattle.siman_cases.proofs.done.endpoints.Given as goal

abbrev pub invariant-loop-peer : goal.invariant-loop-peer
invariant-loop-peer l = endpoints_of l.endpoints ≡ take l.peer-index l.peers
