use Rattle.std.proofs.Common.{Some, refl, sym, ap, ◌∙◌, subst, ⊎_elim}
use Rattle.std.proofs.lemmas.Option.{slice_get_within}
use Rattle.exercise_model.specs.Entry.{Sent, Received, Told}
use Rattle.exercise_model.specs.Held.{shown}
use Rattle.exercise_findings.specs.Hashed.{datagram_hash}
use Rattle.exercise_findings.specs.Slots.{IsPut}
use Rattle.exercise_findings.proofs.Columns.{on_ok}
use Rattle.exercise_findings.proofs.Sources.{sent_at, source_own, not_sent}
use Rattle.exercise_findings.proofs.first_sends.hash_source.Goals as goal

pub entry-requires : goal.entry-requires
entry-requires g c =
    let r = g.L.ExerciseLog.recording c.args.log.now in
    let sent = sent_at r c.args.entry c.requires.source in
    slice_get_within r.entries c.args.entry (Sent sent.0 sent.1.0 sent.1.1.0) sent.1.1.1

pub returns-in-Sent : goal.returns-in-Sent
returns-in-Sent g c =
    let r = g.L.ExerciseLog.recording c.args.log.now in
    let n = c.args.entry in
    let at = c.entry.ensures.entry ∙ ap (λ e. Some (shown e)) c.in-Sent.is in
    on_ok c.keep.result
    (λ put b is. subst (λ h. IsPut h n c.args.slots.now.slots c.keep.new.slots.slots)
    (c.datagram_hash.ensures ∙ ap datagram_hash (sym (source_own r n c.in-Sent.station c.in-Sent.stamp c.in-Sent.bytes.now at b is))) put)
    c.keep.ensures

pub returns-in-Received : goal.returns-in-Received
returns-in-Received g c b is =
    let r = g.L.ExerciseLog.recording c.args.log.now in
    let n = c.args.entry in
    ⊎_elim
    (λ got. absurd (cc (sym is ∙ not_sent r n (Received got.0 got.1 got.2.now) (c.entry.ensures.entry ∙ ap (λ e. Some (shown e)) got.3) (λ b. refl) b)))
    (λ told. absurd (cc (sym is ∙ not_sent r n (Told told.0 told.1 told.2) (c.entry.ensures.entry ∙ ap (λ e. Some (shown e)) told.3) (λ b. refl) b)))
    c.in-Received.is
