use Rattle.std.proofs.Common.{arith}
use Rattle.std.proofs.lemmas.Grind.{common_steps}
use Rattle.siman_outside.proofs.asking.why_words.Goals as goal

pub scale_in_slice-recording : goal.scale_in_slice-recording
scale_in_slice-recording g c = grind (arith, common_steps)

pub bounds-names-0 : goal.bounds-names-0
bounds-names-0 g c = grind (arith, common_steps)

pub scale_in_slice-recording-then-names-lt3 : goal.scale_in_slice-recording-then-names-lt3
scale_in_slice-recording-then-names-lt3 g c = grind (arith, common_steps)

pub scale_in_slice-certificate : goal.scale_in_slice-certificate
scale_in_slice-certificate g c = grind (arith, common_steps)

pub bounds-names-0-then-names-lt3 : goal.bounds-names-0-then-names-lt3
bounds-names-0-then-names-lt3 g c = grind (arith, common_steps)

pub bounds-names-1 : goal.bounds-names-1
bounds-names-1 g c = grind (arith, common_steps)

pub returns-in-len1 : goal.returns-in-len1
returns-in-len1 g c = grind (arith, common_steps)

pub returns-in-len2 : goal.returns-in-len2
returns-in-len2 g c = grind (arith, common_steps)

pub returns-in_default : goal.returns-in_default
returns-in_default g c = grind (arith, common_steps)
