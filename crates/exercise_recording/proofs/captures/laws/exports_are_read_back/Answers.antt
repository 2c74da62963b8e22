use Rattle.exercise_recording.proofs.Captured.ReadBack.{export-read}
use Rattle.exercise_recording.proofs.Captured.ReadDatagrams.{datagram-read}
use Rattle.exercise_recording.proofs.captures.laws.exports_are_read_back.Goals as goal

pub returns : goal.returns
returns c = record { packets = export-read; datagrams = datagram-read }
