-- The characters so far are those of the phrase.
use Rattle.std.proofs.Common.{◌++◌, flat_map, string_bytes, sym, ap, ◌∙◌, map-id}
use Rattle.std.proofs.lemmas.Iterator.{YieldsList-from_chars}
use Rattle.std.proofs.lemmas.Iterator.Consumers.{YieldsList-end}
use Rattle.siman_print.specs.Spelled.{escaped_character}
use Rattle.siman_print.proofs.json.put_escaped.Goals as goal

pub returns : goal.returns
returns c =
    let end = YieldsList-end (YieldsList-from_chars c.args.phrase.now c.utf8.phrase cc) c.loop-character.yielded _ c.loop-character.yielded_by _ _ c.in-None.is c.next.ensures.steps in
    c.loop-character.invariant ∙ ap (λ cs. string_bytes c.args.json.now ++ flat_map escaped_character cs) (sym (map-id c.loop-character.yielded) ∙ end.0)
