use Rattle.exercise_recording.proofs.Captured.EntryLaws.{text-is}
use Rattle.exercise_recording.proofs.captures.import_laws.kept_packets_are_entries.Goals as goal

pub returns : goal.returns
returns c = text-is
