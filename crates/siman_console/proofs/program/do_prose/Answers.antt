-- A word is no filter, and no file is opened; or the recording is reviewed in sentences.
use Rattle.std.proofs.Common.{inl, inr, refl}
use Rattle.std.proofs.KnownBytes.{Keeps-refl}
use Rattle.siman_outside.proofs.Offered.{did_nothing, did_so}
use Rattle.siman_console.proofs.program.do_prose.Goals as goal

pub returns-in-Ok : goal.returns-in-Ok
returns-in-Ok g c =
    let asked = c.in-Ok.ensures in
    did_so g.O.Outside.deeds g.O.Outside.holds _ _ _ _ (λ deeds did. inr (_, asked, did)) c.say_of_file.ensures

pub returns-in-Err : goal.returns-in-Err
returns-in-Err g c =
    did_nothing g.O.Outside.deeds g.O.Outside.holds _ _ (inl (c.in-Err.fault, c.in-Err.ensures, refl, refl, Keeps-refl (g.W.Write.contents c.args.out.now)))
