-- One row more is put, or none.
use Rattle.std.proofs.Common.{[], ◌∷◌, ◌++◌, refl, ap, sym, ◌∙◌, append-nil}
use Rattle.std.specs.Prelude.{codes, string_bytes}
use Rattle.siman_print.specs.declared.spelling.Spelling.TheVariants.{Text}
use Rattle.siman_print.specs.Spelled.{line_spelled}
use Rattle.siman_operator.specs.Notes.{stranger_row}
use Rattle.siman_operator.proofs.Lines.{notes_then}
use Rattle.siman_operator.proofs.NoteRows.{behind}
use Rattle.siman_operator.proofs.session_notes.put_strangers.Goals as goal

pub loop-place-init : goal.loop-place-init
loop-place-init g c = ([], tt, sym (append-nil _))

pub loop-place-preserved : goal.loop-place-preserved
loop-place-preserved g c =
    let before = c.loop-place.invariant in
    let row = stranger_row c.in-Some.from ∷ [] in (
      before.0 ++ row,
      notes_then before.0 row before.1 ((codes "stranger", refl), tt),
      behind before.0 row _ (string_bytes c.loop-place.text) _ before.2
          (c.in_ok-put_stranger-in-Some.ensures ∙ ap (λ text. string_bytes c.loop-place.text ++ text) (sym (append-nil (line_spelled Text (stranger_row c.in-Some.from))))),
    )

pub returns-in-None : goal.returns-in-None
returns-in-None g c = c.loop-place.invariant
