use Rattle.std.proofs.Common.{◌*◌, refl, rules}
use Rattle.exercise_audit.proofs.Trees.{no_tree_in, no_turn_in}
use Rattle.exercise_audit.proofs.turns.Turns.none.Goals as goal

pub invariant_of-result : goal.invariant_of-result
invariant_of-result c =
    no_tree_in c.in_ok-moments.moments.items c.in_ok-nodes.nodes.items c.args.stations (2 * c.args.stations)
    (c.in_ok-moments.ensures.items_if_clones_equal (search rules)) (c.in_ok-nodes.ensures.items_if_clones_equal (search rules)) refl

pub returns-clause-none : goal.returns-clause-none
returns-clause-none c = no_turn_in c.in_ok-moments.moments.items c.args.stations (c.in_ok-moments.ensures.items_if_clones_equal (search rules))
