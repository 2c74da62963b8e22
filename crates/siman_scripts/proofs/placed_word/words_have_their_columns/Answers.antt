use Rattle.byte_files.specs.Text.{words_of}
use Rattle.siman_scripts.proofs.Placed.{placed_from-words, words_stand}
use Rattle.siman_scripts.proofs.placed_word.words_have_their_columns.Goals as goal

pub returns-clause-words : goal.returns-clause-words
returns-clause-words c = placed_from-words 1 (words_of c.args.line.now)

pub returns-clause-columns : goal.returns-clause-columns
returns-clause-columns c = words_stand c.args.line.now
