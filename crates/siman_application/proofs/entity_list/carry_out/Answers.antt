use Rattle.std.proofs.Common.{sym, subst}
use Rattle.siman_application.proofs.Changes.{Makes, create_makes, remove_makes, each_makes}
use Rattle.siman_application.proofs.entity_list.carry_out.Goals as goal

pub returns-in_ok-insert_entity-in-One : goal.returns-in_ok-insert_entity-in-One
returns-in_ok-insert_entity-in-One c =
    let made = subst (Makes c.args.change c.args.entities.now.items) (sym c.in_ok-insert_entity-in-One.ensures.ok)
    (create_makes c.args.change c.in-One.number c.args.entities.now.items c.in-CreateEntity.is c.in-One.is c.requires.opening c.requires.possible) in
    record { opening = made.opening; few = made.few; ok = made.states; err = tt }

pub returns-in-One-scope : goal.returns-in-One-scope
returns-in-One-scope c =
    let made = subst (Makes c.args.change c.args.entities.now.items) (sym c.remove.ensures)
    (remove_makes c.args.change c.in-One-scope.number c.args.entities.now.items c.in-RemoveEntity.is c.in-One-scope.is c.requires.opening c.requires.few) in
    record { opening = made.opening; few = made.few; ok = made.states; err = tt }

pub returns-in_default : goal.returns-in_default
returns-in_default c =
    let made = subst (Makes c.args.change c.args.entities.now.items) (sym c.change_each.ensures)
    (each_makes c.args.change c.args.entities.now.items c.in_default.not-CreateEntity c.in_default.not-RemoveEntity c.requires.opening c.requires.few) in
    record { opening = made.opening; few = made.few; ok = made.states; err = tt }
