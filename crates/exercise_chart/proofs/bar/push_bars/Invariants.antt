use Rattle.std.proofs.Common.{◌≡◌, ◌≤◌, ◌++◌, drop}
use Rattle.exercise_chart.specs.Bar.{no_slots, bars_from, slots_after}
use Rattle.exercise_chart.proofs.bar.push_bars.Given as goal

-- With the bars of what is left all that are wanted stand there, with what is left the slots are used that all of them use, and no more slots are used than there were stretches.
abbrev pub invariant-loop-span : goal.invariant-loop-span
invariant-loop-span g l = record {
  added : l.bars.items ++ bars_from l.scene l.station l.slots (drop l.span-index l.spans) ≡ l.initial.bars.items ++ bars_from l.scene l.station no_slots l.spans;
  shown : slots_after l.scene l.slots (drop l.span-index l.spans) ≡ slots_after l.scene no_slots l.spans;
  few : l.slots.used ≤ l.span-index;
}
