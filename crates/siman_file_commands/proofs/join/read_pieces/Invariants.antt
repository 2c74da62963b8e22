use Rattle.std.proofs.Common.{ℕ, List, map, Option, vec_len}
use Rattle.std.specs.List.{All}
use Rattle.siman_outside.specs.Outside.{Deed, Found, Adds, WasHeld}
use Rattle.siman_file_commands.specs.Join.{start_of, seen_by}
use Rattle.siman_file_commands.proofs.JoinedPieces.{IsReading}
use Rattle.siman_file_commands.proofs.join.read_pieces.Given as goal

abbrev pub invariant-loop-alloc : goal.invariant-loop-alloc
invariant-loop-alloc g l =
    let seen = map (seen_by g.O.Outside.bytes) in
    (deeds : List Deed) × Adds (g.O.Outside.deeds l.initial.outside) (g.O.Outside.deeds l.outside) deeds × ((holds : List ℕ → Option Found) → All (WasHeld holds) deeds)
    × IsReading (start_of l.fn.choices) (seen l.initial.pieces.items) (seen l.pieces.items) deeds l.joining

abbrev pub decreases-loop-alloc : goal.decreases-loop-alloc
decreases-loop-alloc g l = vec_len l.pieces
