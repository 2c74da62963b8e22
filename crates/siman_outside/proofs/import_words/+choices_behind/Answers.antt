use Rattle.std.proofs.Common.{option_map, ap, sym, ◌∙◌}
use Rattle.siman_outside.specs.ImportWords.{choices_by, with_word}
use Rattle.siman_outside.proofs.Chosen.{first_taken}
use Rattle.siman_outside.proofs.import_words.+choices_behind.Goals as goal

pub returns-in_ok-with_word-in-len1-up : goal.returns-in_ok-with_word-in-len1-up
returns-in_ok-with_word-in-len1-up g t c =
    c.choices_behind.ensures
    ∙ first_taken g.S.AsStr.text (choices_by c.args.choices) (choices_by c.in_ok-with_word-in-len1-up.field-0) c.args.words.now c.word-item.result
    c.in-len1-up.len_at_least c.word-item.is
    (ap (with_word (choices_by c.args.choices)) (sym (c.as_bytes.ensures.value ∙ c.as_str.ensures)) ∙ sym c.with_word.ensures
    ∙ ap (option_map choices_by) c.in_ok-with_word-in-len1-up.was)
