use Rattle.std.proofs.Common.{◌∙◌}
use Rattle.siman_cases.proofs.uses.take_hex_digits.Goals as goal

pub returns : goal.returns
returns c = λ pdu b spells bytes room. c.answers_follow_the_grammar.ensures.hex b bytes room ∙ c.answers_follow_the_grammar.ensures.spelled pdu b spells
