-- What was put is the line of that name with these fields.
use Rattle.std.proofs.Common.{◌≡◌, ◌++◌, OnOk, string_bytes, subst}
use Rattle.siman_print.specs.Line.{Line}
use Rattle.siman_print.specs.Spelled.{line_text}
use Rattle.siman_operator.proofs.closing.put_session.Goals as goal

pub returns : goal.returns
returns c =
    let put = subst (λ (said : Line). OnOk c.put_line.result (string_bytes c.put_line.new.text ≡ string_bytes c.args.text.now ++ line_text said)) c.named.ensures c.put_line.ensures in
    rw (c.from.ensures, c.number_value-lost.ensures, c.number_value-buffer.ensures) at put
