use Rattle.siman_pdus.proofs.Spellings.{reading_is, reading_spelled, one_spelled, no_prefix}
use Rattle.siman_pdus.proofs.decoding.spellings_are_apart.Goals as goal

pub returns-clause-read : goal.returns-clause-read
returns-clause-read c = reading_is

pub returns-clause-spelled : goal.returns-clause-spelled
returns-clause-spelled c = reading_spelled

pub returns-clause-one : goal.returns-clause-one
returns-clause-one c = one_spelled

pub returns-clause-whole : goal.returns-clause-whole
returns-clause-whole c = no_prefix
