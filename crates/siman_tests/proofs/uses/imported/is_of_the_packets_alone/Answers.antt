use Rattle.std.proofs.Common.{◌∙◌, sym, ap, List, []}
use Rattle.exercise_recording.specs.Captures.Entries.{entries_from, recording_with}
use Rattle.exercise_recording.specs.Text.{recording_text}
use Rattle.packet_captures.specs.Packet.{Packet}
use Rattle.siman_tests.proofs.uses.imported.is_of_the_packets_alone.Goals as goal

pub returns : goal.returns
returns c = λ rule room station one other s t same first second.
    c.kept_packets_are_entries.ensures rule room station one s first
    ∙ (ap (λ (ps : List Packet). recording_text (recording_with rule.exercise station (entries_from rule [] ps))) same
    ∙ sym (c.kept_packets_are_entries.ensures rule room station other t second))
