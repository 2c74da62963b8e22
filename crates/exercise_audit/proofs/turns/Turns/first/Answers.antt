use Rattle.std.proofs.Common.{◌≡◌, List, length, None, Option, sym, ap, ◌∙◌, subst}
use Rattle.exercise_audit.specs.declared.turns.Moment.{Moment}
use Rattle.exercise_audit.specs.declared.turns.Turn.{Turn}
use Rattle.exercise_audit.specs.Turns.{IsFirstTurn, node_at}
use Rattle.exercise_audit.proofs.Trees.{root_first}
use Rattle.exercise_audit.proofs.turns.Turns.first.Goals as goal

pub returns-in-Some : goal.returns-in-Some
returns-in-Some c =
    let nodes = c.self.inside.nodes.items in
    let root : node_at nodes 1 ≡ c.in-Some.first.now =
    sym (c.in-Some.ensures.lookup.3.1 None ∙ ap (λ (xs : List (Option Turn)). node_at xs 1) c.deref.ensures.value) in
    subst (λ (turns : List (Option Moment)). IsFirstTurn turns 0 (length turns) c.in-Some.first.now) c.self.view_is
    (subst (IsFirstTurn c.self.inside.moments.items 0 (length c.self.inside.moments.items)) root (root_first c.self.inside.moments.items nodes c.self.invariant))
