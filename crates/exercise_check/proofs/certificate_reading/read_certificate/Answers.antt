use Rattle.std.proofs.Common.{◌+◌, ◌*◌}
use Rattle.byte_files.proofs.Offered.{at_start, whole_text}
use Rattle.exercise_check.specs.Certificate.{format_of, steps_of, Answers, whole_at, certificate_at}
use Rattle.exercise_check.proofs.Agreement.{whole_agrees}
use Rattle.exercise_check.proofs.certificate_reading.read_certificate.Goals as goal

pub returns-clause-read : goal.returns-clause-read
unfolding certificate_at
returns-clause-read g c =
    let n = c.args.limit in
    at_start (12 + 8 * n) _ _ (λ i. Answers steps_of c.read_whole.result (whole_at n i)) c.in_ok-source.ensures c.read_whole.ensures.whole

pub returns-clause-text : goal.returns-clause-text
returns-clause-text g c =
    let n = c.args.limit in
    let read = c.read_whole in
    whole_text (whole_agrees n) format_of steps_of (12 + 8 * n) _ _ read.result c.in_ok-source.ensures (read.ensures.whole, read.ensures.taken)
