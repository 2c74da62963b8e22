use Rattle.exercise_recording.proofs.Captured.Picked.{named-back, alone-back}
use Rattle.exercise_recording.proofs.captures.laws.exported_logs_come_back.Goals as goal

pub returns : goal.returns
returns c = record { named = named-back; alone = alone-back }
