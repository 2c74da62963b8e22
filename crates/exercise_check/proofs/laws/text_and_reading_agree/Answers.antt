use Rattle.std.proofs.Common.{◌+◌, ◌*◌, arith}
use Rattle.exercise_check.specs.Certificate.{certificate_at}
use Rattle.byte_files.proofs.Offered.{front}
use Rattle.exercise_check.proofs.Agreement.{length-certificate, whole_agrees}
use Rattle.exercise_check.proofs.laws.text_and_reading_agree.Goals as goal

pub returns-clause-text : goal.returns-clause-text
unfolding certificate_at
returns-clause-text c limit bytes steps fits e = ((whole_agrees limit).takes (front (12 + 8 * limit) 0 bytes) steps (fits, omega arith) e).0

pub returns-clause-within : goal.returns-clause-within
unfolding certificate_at
returns-clause-within c limit bytes steps fits e = ((whole_agrees limit).takes (front (12 + 8 * limit) 0 bytes) steps (fits, omega arith) e).2.within

pub returns-clause-numbers : goal.returns-clause-numbers
unfolding certificate_at
returns-clause-numbers c limit bytes steps fits e = ((whole_agrees limit).takes (front (12 + 8 * limit) 0 bytes) steps (fits, omega arith) e).2.each

pub returns-clause-read : goal.returns-clause-read
unfolding certificate_at
returns-clause-read c limit steps each within few =
    (whole_agrees limit).reads steps (record { few = omega arith; within = within; each = each }) (12 + 8 * limit) 0 (omega (arith, length-certificate steps))
