use Rattle.std.proofs.Common.{◌≡◌, List, map, take}
use Rattle.std.specs.List.{All, flat_map}
use Rattle.siman_outside.specs.Outside.{Deed, Adds, WasHeld}
use Rattle.siman_file_commands.specs.Join.{Seen, seen_by, opening_deeds}
use Rattle.siman_file_commands.proofs.join.open_pieces.Given as goal

abbrev pub invariant-loop-name : goal.invariant-loop-name
invariant-loop-name g l =
    let pieces = map (seen_by g.O.Outside.bytes) l.pieces.items in
    record {
      done : (deeds : List Deed) × Adds (g.O.Outside.deeds l.initial.outside) (g.O.Outside.deeds l.outside) deeds
          × All (WasHeld (g.O.Outside.holds l.initial.outside)) deeds × (deeds ≡ flat_map (opening_deeds l.new) pieces);
      names : map (λ (piece : Seen). piece.name) pieces ≡ take l.name-index (map g.S.AsStr.text l.names);
      stays : g.O.Outside.holds l.outside ≡ g.O.Outside.holds l.initial.outside;
    }
