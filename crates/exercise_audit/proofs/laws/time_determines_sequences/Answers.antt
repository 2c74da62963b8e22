use Rattle.exercise_audit.proofs.Times.{one_sequence, as_written}
use Rattle.exercise_audit.proofs.OneRun.{one_longest}
use Rattle.exercise_audit.proofs.laws.time_determines_sequences.Goals as goal

pub returns : goal.returns
returns c = record { one = one_sequence; written = as_written; longest = one_longest }
