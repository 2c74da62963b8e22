use Rattle.exercise_check.proofs.judgement.source_taken.Goals as goal

pub was_taken-requires-clause-within : goal.was_taken-requires-clause-within
was_taken-requires-clause-within g c = rw c.log.ensures (rw c.in-Some.is at c.source.ensures.within)
