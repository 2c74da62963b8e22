-- One piece after the other.
use Rattle.std.proofs.Common.{◌≡◌, ◌<◌, [], ◌∷◌, ◌++◌, length, map, ap, arith, rules}
use Rattle.std.proofs.lemmas.List.Elements.{All-append, All-nil}
use Rattle.exercise_recording.specs.Joining.{JoiningData}
use Rattle.siman_outside.specs.Outside.{WasHeld}
use Rattle.siman_file_commands.specs.Join.{start_of, seen_by}
use Rattle.siman_file_commands.proofs.JoinedPieces.{first_taken, none_there, none_read, one_read, one_refused, all_read}
use Rattle.siman_outside.proofs.Offered.{adds_none, adds_then}
use Rattle.siman_file_commands.proofs.join.read_pieces.Goals as goal

pub loop-alloc-init : goal.loop-alloc-init
loop-alloc-init g c =
    let start : JoiningData = start_of c.args.choices in
    ([], adds_none _, λ holds. All-nil (WasHeld holds), none_read start c.start_of-joining.result (map (seen_by g.O.Outside.bytes) c.args.pieces.items) c.start_of-joining.ensures)

pub loop-alloc-preserved : goal.loop-alloc-preserved
loop-alloc-preserved g c =
    let start : JoiningData = start_of c.args.choices in
    let seen = map (seen_by g.O.Outside.bytes) in
    let xs = c.loop-alloc.pieces in
    let rest = c.remove-piece.new.self.items in
    let x = c.remove-piece.result in
    let some : 0 < length xs.items = omega (arith, xs.ok.0, c.remove-piece.ensures.len) in
    let is : xs.items ≡ x ∷ rest = first_taken xs.items rest x some c.remove-piece.ensures.value c.remove-piece.ensures.items in
    let so_far = c.loop-alloc.invariant in
    let taken = c.in_ok-take_piece.ensures in (
      so_far.0 ++ taken.0,
      adds_then _ _ _ so_far.0 taken.0 so_far.1 taken.1,
      λ holds. All-append (WasHeld holds) so_far.0 taken.0 (so_far.2 holds) (taken.2 holds),
      one_read start c.loop-alloc.joining c.take_piece.new.joining (seen c.args.pieces.items) (seen xs.items) (seen rest) (seen_by g.O.Outside.bytes x) so_far.0 taken.0 (ap seen is) taken.3 so_far.3,
    )

pub returns-in_err-take_piece : goal.returns-in_err-take_piece
returns-in_err-take_piece g c =
    let start : JoiningData = start_of c.args.choices in
    let seen = map (seen_by g.O.Outside.bytes) in
    let xs = c.loop-alloc.pieces in
    let rest = c.remove-piece.new.self.items in
    let x = c.remove-piece.result in
    let some : 0 < length xs.items = omega (arith, xs.ok.0, c.remove-piece.ensures.len) in
    let is : xs.items ≡ x ∷ rest = first_taken xs.items rest x some c.remove-piece.ensures.value c.remove-piece.ensures.items in
    let so_far = c.loop-alloc.invariant in
    let refused = c.in_err-take_piece.ensures in (
      so_far.0 ++ refused.0,
      adds_then _ _ _ so_far.0 refused.0 so_far.1 refused.1,
      λ holds. All-append (WasHeld holds) so_far.0 refused.0 (so_far.2 holds) (refused.2 holds),
      one_refused start c.loop-alloc.joining c.take_piece.new.joining (seen c.args.pieces.items) (seen xs.items) (seen rest) (seen_by g.O.Outside.bytes x) so_far.0 refused.0
          c.in_err-take_piece.field-0.0 c.from_residual.result (ap seen is) refused.3 c.from_residual.ensures.1 so_far.3,
    )

pub returns : goal.returns
returns g c =
    let start : JoiningData = start_of c.args.choices in
    let seen = map (seen_by g.O.Outside.bytes) in
    let xs = c.loop-alloc.pieces in
    let none : length xs.items ≡ 0 = search rules in
    let so_far = c.loop-alloc.invariant in
    (so_far.0, so_far.1, so_far.2, all_read start c.loop-alloc.joining (seen c.args.pieces.items) (seen xs.items) so_far.0 (ap seen (none_there xs.items none)) so_far.3)
