-- The text names the file and the kind.
use Rattle.siman_outside.proofs.reason.foreign_script.Goals as goal

pub returns-in-Recording : goal.returns-in-Recording
returns-in-Recording c = (c.args.name.now, c.kind_words.result.now, c.named_twice-text.ensures)
