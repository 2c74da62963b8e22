-- The laws, from those of the grammar and of hex text.
use Rattle.std.proofs.Common.{sym}
use Rattle.dis_records.specs.Header.{header_at}
use Rattle.siman_pdus.specs.Reading.{pdu_from, refusal_of}
use Rattle.siman_file_commands.proofs.Readings.{said_of-read, said_of-unread, said_of_hex-encode_lower, result_of_line-encode_lower}
use Rattle.siman_file_commands.proofs.answer.answers_follow_the_grammar.Goals as goal

pub returns-clause-spelled : goal.returns-clause-spelled
returns-clause-spelled c = λ pdu b spells.
    said_of-read (refusal_of b) (pdu_from (header_at b) b) pdu (sym (c.spellings_are_apart.ensures.read pdu b spells))

pub returns-clause-not_spelled : goal.returns-clause-not_spelled
returns-clause-not_spelled c = λ b none.
    said_of-unread (refusal_of b) (pdu_from (header_at b) b) (λ pdu read. none pdu (c.spellings_are_apart.ensures.spelled pdu b read))

pub returns-clause-hex : goal.returns-clause-hex
returns-clause-hex c = λ b bytes short. said_of_hex-encode_lower b bytes short

pub returns-clause-line : goal.returns-clause-line
returns-clause-line c = λ number b bytes some short. result_of_line-encode_lower number b bytes some short
