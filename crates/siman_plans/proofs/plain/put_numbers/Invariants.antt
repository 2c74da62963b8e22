-- With the words of what is left, those so far are the words of all.
use Rattle.std.proofs.Common.{◌≡◌, ◌++◌, length}
use Rattle.std.specs.List.{flat_map}
use Rattle.siman_plans.specs.Plain.{behind}
use Rattle.siman_plans.proofs.plain.put_numbers.Given as goal

abbrev pub invariant-loop-others : goal.invariant-loop-others
invariant-loop-others l = l.text.items ++ flat_map behind l.others ≡ l.initial.text.items ++ flat_map behind l.numbers

abbrev pub decreases-loop-others : goal.decreases-loop-others
decreases-loop-others l = length l.others
