use Rattle.std.proofs.Common.{◌∙◌}
use Rattle.siman_pdus.specs.Reading.{pdu_of}
use Rattle.exercise_conflict.proofs.Contradicting.{pair_is}
use Rattle.exercise_conflict.proofs.clashing.pair_of_sent.Goals as goal

pub returns : goal.returns
returns g c = c.pair_of.ensures ∙ pair_is c.args.findings.now c.args.entry c.args.station (pdu_of c.args.pdu.now) c.requires
