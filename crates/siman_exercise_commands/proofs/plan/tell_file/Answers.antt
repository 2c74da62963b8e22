-- A source has no plan, and nothing is out.
use Rattle.std.proofs.Common.{refl, inl}
use Rattle.std.proofs.KnownBytes.{Keeps-refl}
use Rattle.siman_exercise_commands.proofs.plan.tell_file.Goals as goal

pub returns-in-Err : goal.returns-in-Err
returns-in-Err g c =
    let none = c.in-Err.ensures in (none.0, none.1, inl (c.in-Err.fault, none.2, refl, Keeps-refl (g.W.Write.contents c.args.out.now)))
