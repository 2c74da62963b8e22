use Rattle.std.proofs.Common.{length, sym, ◌∙◌}
use Rattle.exercise_findings.proofs.earlier.source_by_hint.Goals as goal

pub returns-in-Some : goal.returns-in-Some
returns-in-Some g c =
    let r = g.L.ExerciseLog.recording c.args.log.now in
    c.next_source.ensures (length r.entries) c.requires.senders ∙ sym (rw c.in-Some.is at c.received_at.ensures.some)

pub returns-in-None : goal.returns-in-None
returns-in-None g c = sym (rw c.in-None.is at c.received_at.ensures.none)
