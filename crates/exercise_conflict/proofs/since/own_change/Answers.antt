use Rattle.std.proofs.Common.{◌≡◌, None, Some, sym, ap, ◌∙◌}
use Rattle.std.specs.Prelude.{slice_get, if◌then◌else◌}
use Rattle.std.proofs.lemmas.Bool.{eq-eqb, ne_eqb}
use Rattle.exercise_model.specs.Held.{shown}
use Rattle.exercise_model.specs.Recording.{PlainRecording}
use Rattle.exercise_model.specs.Account.{change_at}
use Rattle.exercise_conflict.proofs.Entities.{own_changes}
use Rattle.exercise_conflict.proofs.since.own_change.Goals as goal

pub returns-then-station : goal.returns-then-station
returns-then-station g c =
    let r : PlainRecording = c.args.findings.now in
    let at : slice_get r.entries c.args.entry ≡ Some (shown c.entry.result) =
    ap (λ (x : PlainRecording). slice_get x.entries c.args.entry) (sym c.log.ensures) ∙ c.entry.ensures.entry in
    c.change.ensures
    ∙ sym (own_changes r c.args.station c.args.entry (shown c.entry.result) at
    ∙ ap (λ b. if b then change_at r c.args.entry else None) (eq-eqb _ _ (sym c.station.ensures ∙ c.if-station.true)))

pub returns-else-station : goal.returns-else-station
returns-else-station g c =
    let r : PlainRecording = c.args.findings.now in
    let at : slice_get r.entries c.args.entry ≡ Some (shown c.entry.result) =
    ap (λ (x : PlainRecording). slice_get x.entries c.args.entry) (sym c.log.ensures) ∙ c.entry.ensures.entry in
    sym (own_changes r c.args.station c.args.entry (shown c.entry.result) at
    ∙ ap (λ b. if b then change_at r c.args.entry else None) (ne_eqb _ _ (λ same. c.if-station.false (c.station.ensures ∙ same))))
