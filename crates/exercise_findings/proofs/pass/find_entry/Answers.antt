use Rattle.std.proofs.Common.{Some, refl, ap, ◌∙◌}
use Rattle.exercise_model.specs.Entry.{Received, Told}
use Rattle.exercise_model.specs.Held.{shown}
use Rattle.exercise_findings.proofs.Columns.{on_ok}
use Rattle.exercise_findings.proofs.HigherMarks.{rising_pass, got_nothing, told_nothing}
use Rattle.exercise_findings.proofs.Reused.{requests_pass}
use Rattle.exercise_findings.proofs.pass.find_entry.Goals as goal

pub keep_sent-requires-clause-sends : goal.keep_sent-requires-clause-sends
keep_sent-requires-clause-sends g c = (c.in-Sent.stamp, c.entry.ensures.entry ∙ ap (λ e. Some (shown e)) c.in-Sent.is)

pub keep_received-requires-clause-receives : goal.keep_received-requires-clause-receives
keep_received-requires-clause-receives g c = (c.in-Received.stamp, c.entry.ensures.entry ∙ ap (λ e. Some (shown e)) c.in-Received.is)

pub keep_told-requires-clause-told : goal.keep_told-requires-clause-told
keep_told-requires-clause-told g c = c.entry.ensures.entry ∙ ap (λ e. Some (shown e)) c.in-Told.is

pub returns-in-Received-clause-requests : goal.returns-in-Received-clause-requests
returns-in-Received-clause-requests g c =
    let r = g.L.ExerciseLog.recording c.args.log.now in
    on_ok c.keep_received.result (λ _. requests_pass r c.args.entry (Received c.in-Received.station c.in-Received.stamp c.in-Received.bytes.now) c.args.requests.now
    (c.entry.ensures.entry ∙ ap (λ e. Some (shown e)) c.in-Received.is) (λ k. refl) c.requires.requests) c.keep_received.ensures

pub returns-in-Told-clause-requests : goal.returns-in-Told-clause-requests
returns-in-Told-clause-requests g c =
    let r = g.L.ExerciseLog.recording c.args.log.now in
    on_ok c.keep_told.result (λ _. requests_pass r c.args.entry (Told c.in-Told.station c.in-Told.entity c.in-Told.state) c.args.requests.now
    (c.entry.ensures.entry ∙ ap (λ e. Some (shown e)) c.in-Told.is) (λ k. refl) c.requires.requests) c.keep_told.ensures

pub returns-in-Received-clause-rising : goal.returns-in-Received-clause-rising
returns-in-Received-clause-rising g c =
    let r = g.L.ExerciseLog.recording c.args.log.now in
    on_ok c.keep_received.result (λ _. rising_pass r c.args.entry (Received c.in-Received.station c.in-Received.stamp c.in-Received.bytes.now) c.args.rising.now
    (c.entry.ensures.entry ∙ ap (λ e. Some (shown e)) c.in-Received.is)
    (got_nothing r c.in-Received.station c.in-Received.bytes.now) c.requires.rising) c.keep_received.ensures

pub returns-in-Told-clause-rising : goal.returns-in-Told-clause-rising
returns-in-Told-clause-rising g c =
    let r = g.L.ExerciseLog.recording c.args.log.now in
    on_ok c.keep_told.result (λ _. rising_pass r c.args.entry (Told c.in-Told.station c.in-Told.entity c.in-Told.state) c.args.rising.now
    (c.entry.ensures.entry ∙ ap (λ e. Some (shown e)) c.in-Told.is)
    (told_nothing r c.in-Told.station c.in-Told.entity c.in-Told.state) c.requires.rising) c.keep_told.ensures
