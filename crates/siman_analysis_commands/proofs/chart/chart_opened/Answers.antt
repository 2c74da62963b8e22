-- Both files are read, one after the other.
use Rattle.std.proofs.Common.{[], ◌∷◌, Some}
use Rattle.siman_outside.specs.Outside.{Reads, stream}
use Rattle.siman_outside.proofs.Offered.{adds_then}
use Rattle.siman_analysis_commands.proofs.chart.chart_opened.Goals as goal

pub returns-clause-done : goal.returns-clause-done
returns-clause-done g c =
    let one = Reads (g.O.Outside.bytes c.args.opened.0) in
    let two = Reads (g.O.Outside.bytes c.args.opened.1) in
    adds_then _ _ _ (one ∷ []) (two ∷ []) c.read-recording.ensures.done c.read-certificate.ensures.done

pub returns-clause-comes : goal.returns-clause-comes
returns-clause-comes g c = (stream (Some c.new-nothing.result.items) (Some c.say_of_certificate.new.out.items), rw (c.read-recording.ensures.same, c.read-certificate.ensures.same) at c.say_of_certificate.ensures.says)
