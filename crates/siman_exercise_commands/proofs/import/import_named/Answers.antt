-- No file is opened where a word is no address.
use Rattle.std.proofs.Common.{refl, inl, inr}
use Rattle.std.proofs.KnownBytes.{Keeps-refl}
use Rattle.siman_outside.proofs.Offered.{did_nothing, did_so}
use Rattle.siman_exercise_commands.specs.Import.{importing_of}
use Rattle.siman_exercise_commands.proofs.import.import_named.Goals as goal

pub returns-in-Err : goal.returns-in-Err
returns-in-Err g c =
    did_nothing g.O.Outside.deeds g.O.Outside.holds _ _
    (inl (c.in-Err.fault, c.in-Err.ensures, refl, refl, Keeps-refl (g.W.Write.contents c.args.out.now)))

pub returns-in-Ok : goal.returns-in-Ok
returns-in-Ok g c =
    did_so g.O.Outside.deeds g.O.Outside.holds _ _ _ _ (λ deeds did. inr (importing_of c.in-Ok.importing, c.in-Ok.ensures, did)) c.import_of_files.ensures
