-- Both files are read, one after the other.
use Rattle.std.proofs.Common.{[], ◌∷◌}
use Rattle.siman_outside.specs.Outside.{Reads}
use Rattle.siman_outside.proofs.Offered.{adds_then}
use Rattle.siman_exercise_commands.proofs.import.import_opened.Goals as goal

pub returns-clause-done : goal.returns-clause-done
returns-clause-done g c =
    let one = Reads (g.O.Outside.bytes c.args.opened.0) in
    let two = Reads (g.O.Outside.bytes c.args.opened.1) in
    adds_then _ _ _ (one ∷ []) (two ∷ []) c.read-setup.ensures.done c.read-capture.ensures.done

pub returns-clause-comes : goal.returns-clause-comes
returns-clause-comes g c = rw (c.read-setup.ensures.same, c.read-capture.ensures.same) at c.import_readers.ensures
