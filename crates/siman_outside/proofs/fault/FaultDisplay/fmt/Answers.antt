use Rattle.std.proofs.Common.{arith}
use Rattle.std.proofs.lemmas.Grind.{common_steps}
use Rattle.siman_outside.proofs.fault.FaultDisplay.fmt.Goals as goal

pub fact_in-write : goal.fact_in-write
fact_in-write g c = grind (arith, common_steps)

pub fact_in-write-in-None : goal.fact_in-write-in-None
fact_in-write-in-None g c = grind (arith, common_steps)

pub fact_in-write-in-Some : goal.fact_in-write-in-Some
fact_in-write-in-Some g c = grind (arith, common_steps)

pub fact_in-write-in-Some-2 : goal.fact_in-write-in-Some-2
fact_in-write-in-Some-2 g c = grind (arith, common_steps)

pub returns-in-None-clause-writes : goal.returns-in-None-clause-writes
returns-in-None-clause-writes g c = grind (arith, common_steps)

pub returns-in-Some-clause-writes : goal.returns-in-Some-clause-writes
returns-in-Some-clause-writes g c = grind (arith, common_steps)
