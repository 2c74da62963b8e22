use Rattle.std.proofs.Common.{sym, ◌∙◌}
use Rattle.exercise_model.specs.Entry.{Sent}
use Rattle.exercise_findings.proofs.FirstSends.{sends_still}
use Rattle.exercise_findings.proofs.Sources.{never_source}
use Rattle.exercise_findings.proofs.first_sends.note_send.Goals as goal

pub returns-then-not-is_source : goal.returns-then-not-is_source
returns-then-not-is_source g c =
    let r = g.L.ExerciseLog.recording c.args.log.now in
    let n = c.args.entry in
    let sent = Sent c.requires.sends.0 c.requires.sends.1.0 c.args.bytes.now in
    sends_still r n c.args.sends.now (never_source r n sent c.requires.sends.1.1 (sym c.requires.source ∙ c.if-not-is_source.true)) c.requires.tied
