use Rattle.siman_print.proofs.Reasons.{reason_there}
use Rattle.siman_print.proofs.reason.others_have_reasons.Goals as goal

pub returns : goal.returns
returns c = reason_there
