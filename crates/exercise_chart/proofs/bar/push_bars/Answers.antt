use Rattle.exercise_chart.specs.Bar.{bars_from, slots_after}
use Rattle.std.proofs.Common.{arith}
use Rattle.std.proofs.lemmas.Grind.{common_steps}
use Rattle.exercise_chart.proofs.bar.push_bars.Goals as goal

pub loop-span-preserved : goal.loop-span-preserved
unfolding bars_from slots_after
loop-span-preserved g c = grind (arith, common_steps)

pub returns-clause-bars : goal.returns-clause-bars
unfolding bars_from slots_after
returns-clause-bars g c = grind (arith, common_steps)

pub returns-clause-entities : goal.returns-clause-entities
unfolding bars_from slots_after
returns-clause-entities g c = grind (arith, common_steps)
