-- What is asked of a recording holds: it keeps the limits.
use Rattle.siman_file_commands.proofs.why.why.Goals as goal

pub contradicted-requires-clause-limits : goal.contradicted-requires-clause-limits
contradicted-requires-clause-limits g c = rw (c.in_ok-explanation.ensures.findings, c.in_ok-found.ensures.findings) c.in_ok-found.ensures.limits
