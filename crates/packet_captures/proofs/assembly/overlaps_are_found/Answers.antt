use Rattle.std.proofs.Common.{◌≡◌, arith}
use Rattle.packet_captures.proofs.PartLaws.{overlap_found, found_overlap, placed_in_order}
use Rattle.packet_captures.proofs.assembly.overlaps_are_found.Goals as goal

pub returns-clause-found : goal.returns-clause-found
returns-clause-found c = overlap_found 0

pub returns-clause-only : goal.returns-clause-only
returns-clause-only c = found_overlap 0

pub returns-clause-placed : goal.returns-clause-placed
returns-clause-placed c = λ p ps i order found.
    let placed = placed_in_order 0 i p ps order found in
    let same : i ≡ placed.index = omega (arith, placed.is_index) in
    rw same placed.in_order
