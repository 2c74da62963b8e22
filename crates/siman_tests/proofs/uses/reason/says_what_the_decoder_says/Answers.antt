use Rattle.std.proofs.Common.{refl}
use Rattle.siman_pdus.specs.declared.fault.ViewFault.TheVariants as views
use Rattle.siman_print.specs.Reason.{reason_name, reason_number}
use Rattle.siman_print.specs.declared.reason.OtherReason.TheVariants.{Refused}
use Rattle.siman_tests.proofs.uses.reason.says_what_the_decoder_says.Goals as goal

pub returns-clause-header : goal.returns-clause-header
returns-clause-header c = λ fault. (
  reason_name (Refused (views.Header fault)),
  reason_number (Refused (views.Header fault)),
  c.reasons_are_refusals.ensures.header fault,
  refl,
)

pub returns-clause-short : goal.returns-clause-short
returns-clause-short c = λ offset. (reason_name (Refused (views.BodyShort offset)), c.reasons_are_refusals.ensures.short offset, refl)
