-- The lines tell nothing of what they were handed.
use Rattle.std.proofs.Common.{◌≡◌, length, refl, inl, inr, arith}
use Rattle.std.proofs.KnownBytes.{Keeps-refl}
use Rattle.siman_trials.proofs.network.record_on_network.Goals as goal

pub record_exercise-requires : goal.record_exercise-requires
record_exercise-requires g c = record { unused = λ number line there. tt }

pub returns-in-Ok-clause-comes : goal.returns-in-Ok-clause-comes
returns-in-Ok-clause-comes g c =
    let count : length c.in-Ok.lines.items ≡ length c.args.stations.items = omega (arith, c.in-Ok.ensures, c.len.ensures, c.args.stations.ok.0) in
    inr (c.in-Ok.lines.items, count, c.record_exercise.ensures.comes)

pub returns-in-Err-clause-comes : goal.returns-in-Err-clause-comes
returns-in-Err-clause-comes g c = inl (refl, refl)

pub returns-in-Err-clause-leaves : goal.returns-in-Err-clause-leaves
returns-in-Err-clause-leaves g c = inl (Keeps-refl (g.W.Write.contents c.args.file))
