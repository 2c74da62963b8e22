use Rattle.siman_pdus.proofs.Carried.{text_is_spelled, text_is_read, text_is_carried, text_has_size, text_is_bytes}
use Rattle.siman_pdus.proofs.ReadRanges.{read_in_range}
use Rattle.siman_pdus.proofs.ranges.ranges_and_texts_agree.Goals as goal

pub returns-clause-in_range : goal.returns-clause-in_range
returns-clause-in_range c pdu b = read_in_range b pdu

pub returns-clause-spelled : goal.returns-clause-spelled
returns-clause-spelled c = text_is_spelled

pub returns-clause-read : goal.returns-clause-read
returns-clause-read c = text_is_read

pub returns-clause-carried : goal.returns-clause-carried
returns-clause-carried c = text_is_carried

pub returns-clause-size : goal.returns-clause-size
returns-clause-size c = text_has_size

pub returns-clause-bytes : goal.returns-clause-bytes
returns-clause-bytes c = text_is_bytes
