use Rattle.packet_captures.specs.Carried.{plain_datagram}
use Rattle.exercise_recording.proofs.Captured.Shorts.{short-whole}
use Rattle.exercise_recording.proofs.captures.packet_kind.datagram_kind.Goals as goal

pub returns-else-not-is_whole-clause-short : goal.returns-else-not-is_whole-clause-short
returns-else-not-is_whole-clause-short c = λ entry. short-whole c.args.rule.now (plain_datagram c.args.datagram.now) (cc) (cc)
