use Rattle.std.proofs.Common.{◌≡◌, List, Some, sym, ap, ◌∙◌}
use Rattle.std.specs.Prelude.{slice_get}
use Rattle.exercise_model.specs.Entry.{Entry, Sent, Received, Told}
use Rattle.exercise_model.specs.Held.{shown}
use Rattle.exercise_model.specs.Recording.{PlainRecording}
use Rattle.exercise_conflict.proofs.Counted.{right_sent, right_got, right_told}
use Rattle.exercise_conflict.proofs.step_clashing.right_link.Goals as goal

pub returns-in-Sent : goal.returns-in-Sent
returns-in-Sent g c =
    let r : PlainRecording = c.args.findings.now in
    let i = c.args.place in
    let at : slice_get r.entries i ≡ Some (Sent c.in-Sent.station c.in-Sent.stamp c.in-Sent.bytes.now) =
    ap (λ (x : PlainRecording). slice_get x.entries i) (sym c.log-log.ensures) ∙ c.entry.ensures.entry ∙ ap (λ v. Some (shown v)) c.in-Sent.is in
    c.pair_of.ensures ∙ right_sent r c.args.before.now i c.in-Sent.station c.in-Sent.stamp c.in-Sent.bytes.now at

pub returns-in-Received : goal.returns-in-Received
returns-in-Received g c =
    let r : PlainRecording = c.args.findings.now in
    let i = c.args.place in
    let at : slice_get r.entries i ≡ Some (Received c.in-Received.station c.in-Received.stamp c.in-Received.bytes.now) =
    ap (λ (x : PlainRecording). slice_get x.entries i) (sym c.log-log.ensures) ∙ c.entry.ensures.entry ∙ ap (λ v. Some (shown v)) c.in-Received.is in
    c.received_link.ensures ∙ right_got r c.args.before.now i c.in-Received.station c.in-Received.stamp c.in-Received.bytes.now at

pub returns-in-Told : goal.returns-in-Told
returns-in-Told g c =
    let r : PlainRecording = c.args.findings.now in
    let i = c.args.place in
    let at : slice_get r.entries i ≡ Some (Told c.in-Told.station c.in-Told.entity c.in-Told.state) =
    ap (λ (x : PlainRecording). slice_get x.entries i) (sym c.log-log.ensures) ∙ c.entry.ensures.entry ∙ ap (λ v. Some (shown v)) c.in-Told.is in
    right_told r c.args.before.now i c.in-Told.station c.in-Told.entity c.in-Told.state at
