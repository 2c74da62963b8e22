-- There is memory to begin, or none.
use Rattle.std.proofs.Common.{subst}
use Rattle.siman_file_commands.proofs.Tellings.{stream, ShowsInput, told-nothing}
use Rattle.siman_file_commands.proofs.pdus.show_input.Goals as goal

pub returns-in_err-reader : goal.returns-in_err-reader
returns-in_err-reader g c = told-nothing (g.R.Read.remaining c.args.input) c.from_residual.result _ _ c.from_residual.ensures.1

pub returns-in_err-line : goal.returns-in_err-line
returns-in_err-line g c = told-nothing (g.R.Read.remaining c.args.input) c.from_residual-in_err-line.result _ _ c.from_residual-in_err-line.ensures.1

pub returns : goal.returns
returns g c =
    subst (λ known. ShowsInput known c.show_lines.result
    (stream (g.W.Write.contents c.args.out.now) (g.W.Write.contents c.show_lines.new.out))
    (stream (g.E.Write.contents c.args.errors.now) (g.E.Write.contents c.show_lines.new.errors))) c.in_ok-reader.ensures c.show_lines.ensures
