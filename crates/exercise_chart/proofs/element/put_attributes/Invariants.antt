-- The attributes so far.
use Rattle.std.proofs.Common.{◌≡◌, ◌++◌, map, take, string_bytes}
use Rattle.exercise_chart.specs.Element.{attribute_of, attributes_text}
use Rattle.exercise_chart.proofs.element.put_attributes.Given as goal

abbrev pub invariant-loop-attribute : goal.invariant-loop-attribute
invariant-loop-attribute l = string_bytes l.text ≡ string_bytes l.initial.text ++ attributes_text (map attribute_of (take l.attribute-index l.attributes))
