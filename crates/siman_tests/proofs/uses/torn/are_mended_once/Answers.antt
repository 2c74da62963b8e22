use Rattle.std.proofs.Common.{Result, ap, ◌+◌}
use Rattle.exercise_model.specs.Recording.{PlainRecording}
use Rattle.exercise_recording.specs.Mending.{mended, whole_before}
use Rattle.exercise_recording.specs.Text.{recording_text}
use Rattle.exercise_recording.specs.declared.format_fault.FormatFault.{FormatFault}
use Rattle.siman_tests.proofs.uses.torn.are_mended_once.Goals as goal

pub returns : goal.returns
returns c = λ limit m given.
    ap (λ (read : Result PlainRecording FormatFault). mended read (whole_before (limit + 5) (recording_text m.recording)))
    (c.mended_is_whole.ensures.again limit c.args.bytes.now m c.are_bytes.ensures given)
