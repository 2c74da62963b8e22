use Rattle.std.proofs.Common.{Some, sym, ap, ◌∙◌, ⊎_elim}
use Rattle.exercise_model.specs.Entry.{Sent, Received, Told}
use Rattle.exercise_model.specs.Held.{shown}
use Rattle.exercise_findings.proofs.Sources.{source_here, source_whole}
use Rattle.exercise_findings.proofs.earlier.received_at.Goals as goal

pub returns-in-Received-clause-some : goal.returns-in-Received-clause-some
returns-in-Received-clause-some g c =
    let r = g.L.ExerciseLog.recording c.args.log.now in
    source_here r c.args.entry (Received c.in-Received.station c.in-Received.stamp c.in-Received.bytes.now)
    (c.entry.ensures.entry ∙ ap (λ e. Some (shown e)) c.in-Received.is) ∙ sym (source_whole r c.in-Received.bytes.now)

pub returns-in-Sent-clause-none : goal.returns-in-Sent-clause-none
returns-in-Sent-clause-none g c =
    let r = g.L.ExerciseLog.recording c.args.log.now in
    ⊎_elim
    (λ sent. source_here r c.args.entry (Sent sent.0 sent.1 sent.2.now) (c.entry.ensures.entry ∙ ap (λ e. Some (shown e)) sent.3))
    (λ told. source_here r c.args.entry (Told told.0 told.1 told.2) (c.entry.ensures.entry ∙ ap (λ e. Some (shown e)) told.3))
    c.in-Sent.is
