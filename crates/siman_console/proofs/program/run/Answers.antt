-- The words could not be had, or it ended as they ask for.
use Rattle.std.proofs.Common.{[], Err, refl}
use Rattle.std.proofs.KnownBytes.{Keeps-refl}
use Rattle.std.proofs.lemmas.List.Elements.{All-nil}
use Rattle.siman_outside.specs.Ending.{Ends}
use Rattle.siman_outside.specs.Outside.{WasHeld, begun_by}
use Rattle.siman_outside.proofs.Offered.{adds_none}
use Rattle.siman_console.proofs.program.run.Goals as goal

pub returns-in-Err : goal.returns-in-Err
returns-in-Err g c =
    let after = g.E.Write.contents c.conclude-ending.new.errors in
    let ends : Ends (Err c.of_error.result) c.explained.result (g.E.Write.contents c.args.errors.now) after = rw c.explained.ensures.ended c.conclude-ending.ensures.ends in
    rw c.in-Err.is (
      [],
      adds_none _,
      All-nil (WasHeld (g.O.Outside.holds c.args.outside.now)),
      (
        c.conclude-ending.result.fault,
        begun_by c.conclude-ending.result,
        c.conclude-ending.result.warning,
        c.conclude-ending.result.further,
        (refl, (Keeps-refl (g.W.Write.contents c.args.out.now), (c.of_error.result, c.of_error.ensures, (ends, c.conclude-ending.ensures.fault, c.conclude-ending.ensures.begun)))),
        c.explained.ensures.explains,
      ),
    )

pub returns-in-Ok : goal.returns-in-Ok
returns-in-Ok g c =
    let did = rw c.deref.ensures.value at c.end_words.ensures in
    rw c.in-Ok.is did
