-- A certificate that was fetched is read; one that could not be fetched is refused, whatever it is.
use Rattle.std.proofs.Common.{ℕ, List, Err, subst}
use Rattle.exercise_check.specs.declared.certificate_fault.CertificateFault.TheVariants.{Read, Memory}
use Rattle.exercise_check.specs.Certificate.{steps_of, Answers, certificate_at}
use Rattle.exercise_check.proofs.Limits.{of_fetched, of_any}
use Rattle.exercise_check.proofs.certificate_reading.fetch_certificate.Goals as goal

pub returns-in-Ok-clause-read : goal.returns-in-Ok-clause-read
returns-in-Ok-clause-read g c =
    let read = subst (λ (text : List ℕ). Answers steps_of c.read_text.result (certificate_at c.args.limit text)) c.as_slice.ensures.value c.read_text.ensures.read in
    of_fetched (Answers steps_of c.read_text.result) c.args.limit (g.R.Read.remaining c.args.reader) c.in-Ok.text.items
    (c.past_the_limit_nothing_counts.ensures c.args.limit) c.in-Ok.ensures.text read

pub returns-in-Err-Read-clause-read : goal.returns-in-Err-Read-clause-read
returns-in-Err-Read-clause-read g c = of_any (Answers steps_of (Err Read)) c.args.limit (g.R.Read.remaining c.args.reader) (λ read. tt)

pub returns-clause-read : goal.returns-clause-read
returns-clause-read g c = of_any (Answers steps_of (Err Memory)) c.args.limit (g.R.Read.remaining c.args.reader) (λ read. tt)
