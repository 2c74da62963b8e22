use Rattle.std.proofs.Common.{◌≡◌, ℕ, ◌+◌, sym, ap, ◌∙◌}
use Rattle.exercise_model.specs.Recording.{PlainRecording}
use Rattle.exercise_review.specs.Room.{lists_below}
use Rattle.exercise_review.specs.Span.{made_at}
use Rattle.exercise_review.proofs.Spans.{change_more, change_none}
use Rattle.exercise_review.proofs.changes.changes_made.Goals.{in-Some+in_ok-push, in_default}
use Rattle.exercise_review.proofs.changes.changes_made.Goals as goal

pub loop-entry-preserved : goal.loop-entry-preserved
loop-entry-preserved g c =
    let r : PlainRecording = c.args.findings.now in
    let s : ℕ = c.args.station in
    let k : ℕ = c.loop-entry.entry in
    elim c.match-own_change.branch as (λ _. c.match-own_change.changes.items ≡ lists_below (made_at r s) (k + 1)) [
      | in-Some+in_ok-push w ↦
          let pushed : c.match-own_change.changes.items ≡ w.push.new.self.items = ap (λ v. v.items) w.changes-is in
          change_more r s k w.in-Some.change c.loop-entry.changes.items c.match-own_change.changes.items (sym c.own_change.ensures ∙ w.in-Some.is)
          c.loop-entry.invariant (pushed ∙ w.in_ok-push.ensures.items)
      | in_default w ↦
          change_none r s k c.match-own_change.changes.items (sym c.own_change.ensures ∙ w.in_default.is) (ap (λ v. v.items) w.changes-is ∙ c.loop-entry.invariant)
    ]
