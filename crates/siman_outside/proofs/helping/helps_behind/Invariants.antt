-- The words that are left ask for help where all of them do.
use Rattle.std.proofs.Common.{◌≡◌, length, map}
use Rattle.siman_outside.specs.Helping.{helps_behind}
use Rattle.siman_outside.proofs.helping.helps_behind.Given as goal

abbrev pub invariant-loop-others : goal.invariant-loop-others
invariant-loop-others g l =
    helps_behind l.names_left l.json_left l.prose_left l.force_left l.torn_left (map g.S.AsStr.text l.others)
    ≡ helps_behind l.names l.json l.prose l.force l.torn (map g.S.AsStr.text l.words)

abbrev pub decreases-loop-others : goal.decreases-loop-others
decreases-loop-others g l = length l.others
