-- One row is put.
use Rattle.std.proofs.Common.{[], ◌∷◌, ◌++◌, refl, ap, sym, ◌∙◌, append-nil}
use Rattle.std.specs.Prelude.{codes, string_bytes}
use Rattle.siman_print.specs.Line.{Number, Keyed, named_line}
use Rattle.siman_operator.proofs.session_notes.put_lost.Goals as goal

pub returns-in_ok-put_named-in-Some : goal.returns-in_ok-put_named-in-Some
returns-in_ok-put_named-in-Some c = (
  named_line (codes "# lost") (Keyed (codes "datagrams") (Number c.in-Some.lost) ∷ []) ∷ [],
  ((codes "lost", refl), tt),
  c.in_ok-put_named-in-Some.ensures ∙ ap (λ text. string_bytes c.args.text.now ++ text) (sym (append-nil _)),
)
