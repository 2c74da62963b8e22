-- The strangers, and then what the system dropped.
use Rattle.std.proofs.Common.{◌++◌}
use Rattle.siman_operator.proofs.Lines.{notes_then}
use Rattle.siman_operator.proofs.NoteRows.{behind}
use Rattle.siman_operator.proofs.session_notes.put_link.Goals as goal

pub returns : goal.returns
returns g c =
    let first = c.in_ok-strangers.ensures in
    let second = c.in_ok-lost.ensures in
    (first.0 ++ second.0, notes_then first.0 second.0 first.1 second.1, behind first.0 second.0 _ _ _ first.2 second.2)
