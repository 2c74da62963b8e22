-- What is asked of a recording holds: it keeps the limits.
use Rattle.siman_file_commands.proofs.why.why_not.Goals as goal

pub refused-requires-clause-limits : goal.refused-requires-clause-limits
refused-requires-clause-limits g c = rw (c.in_ok-refusal.ensures.findings, c.in_ok-found.ensures.findings) c.in_ok-found.ensures.limits
