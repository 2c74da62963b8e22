use Rattle.std.proofs.Common.{◌+◌, ◌*◌, Some}
use Rattle.byte_files.proofs.Offered.{at_start}
use Rattle.exercise_check.specs.Certificate.{steps_of, Answers, whole_at, certificate_at}
use Rattle.exercise_check.proofs.certificate_reading.read_text.Goals as goal

pub returns-clause-read : goal.returns-clause-read
unfolding certificate_at
returns-clause-read c =
    let n = c.args.limit in
    at_start (12 + 8 * n) (Some c.args.text.now) _ (λ i. Answers steps_of c.whole_in.result (whole_at n i)) c.new-source.ensures c.whole_in.ensures.whole
