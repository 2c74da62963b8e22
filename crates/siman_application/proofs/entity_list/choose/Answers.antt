use Rattle.std.proofs.Common.{sym, ◌∙◌, true, false}
use Rattle.siman_application.proofs.Changes.{chosen_none, chosen_least, chosen_own}
use Rattle.siman_application.proofs.entity_list.choose.Goals as goal

pub returns-then-entities-ge-MOST_ENTITIES : goal.returns-then-entities-ge-MOST_ENTITIES
returns-then-entities-ge-MOST_ENTITIES c = sym (chosen_none c.args.entities.now c.args.number c.requires.opening c.if-entities-ge-MOST_ENTITIES.true)

pub returns-then-number-eq-ANY_NUMBER : goal.returns-then-number-eq-ANY_NUMBER
returns-then-number-eq-ANY_NUMBER c =
    sym (chosen_least c.args.entities.now c.args.number c.least_free.result c.requires.opening c.if-entities-ge-MOST_ENTITIES.false c.if-number-eq-ANY_NUMBER.true c.least_free.ensures)

pub returns-then-is_free : goal.returns-then-is_free
returns-then-is_free c =
    sym (chosen_own c.args.entities.now c.args.number c.requires.opening c.if-entities-ge-MOST_ENTITIES.false c.if-number-eq-ANY_NUMBER.false true
    (sym c.is_free.ensures ∙ c.if-is_free.true))

pub returns : goal.returns
returns c =
    sym (chosen_own c.args.entities.now c.args.number c.requires.opening c.if-entities-ge-MOST_ENTITIES.false c.if-number-eq-ANY_NUMBER.false false
    (sym c.is_free.ensures ∙ c.if-is_free.false))
