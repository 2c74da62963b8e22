use Rattle.std.proofs.Common.{◌≤◌, length, arith}
use Rattle.exercise_review.proofs.Registered.{unplaced}
use Rattle.exercise_review.proofs.entry_chains.indexed_end.Goals as goal

pub returns-clause-rest : goal.returns-clause-rest
returns-clause-rest c keys tied i from below =
    let past : length c.args.ways.now.places.items ≤ i = omega (arith, from, below, c.min.ensures, c.len.ensures) in
    unplaced keys c.args.count i c.args.ways.now tied past below
